-- `failure::gather_signallers` meets its contract: those of the numbers passed that signal.
use Rattle.nodesets.proofs.Gathered.{Gathered}
use Rattle.failure.specs.Failure.{signals}
use Rattle.failure.proofs.gather_signallers.Given as goal

abbrev pub invariant-loop-k : goal.invariant-loop-k
invariant-loop-k l = Gathered (signals l.node l.voters l.reports l.subject) l.k l.set
