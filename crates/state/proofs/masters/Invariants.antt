-- `state::masters` meets its contract: the masters among the records passed.
use Rattle.nodesets.proofs.Gathered.{Gathered}
use Rattle.state.specs.Node.{master_at}
use Rattle.state.proofs.masters.Given as goal

abbrev pub invariant-loop-k : goal.invariant-loop-k
invariant-loop-k l = Gathered (master_at l.node) l.k l.set
