-- `tellings::put_changes`: the buffer keeps its length.
use Rattle.lines.specs.Writers.{SameRoom}
use Rattle.tellings.proofs.put_changes.Given as goal

abbrev pub invariant-loop-k : goal.invariant-loop-k
invariant-loop-k l = SameRoom l.initial.out l.out
