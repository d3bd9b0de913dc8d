-- `tellings::put_wins`: the buffer keeps its length.
use Rattle.lines.specs.Writers.{SameRoom}
use Rattle.tellings.proofs.put_wins.Given as goal

abbrev pub invariant-loop-i : goal.invariant-loop-i
invariant-loop-i l = (goal.iterator-loop-i).can_next l.i-iterator × (goal.iterator-loop-i).is_finite l.i-iterator × SameRoom l.initial.out l.out
