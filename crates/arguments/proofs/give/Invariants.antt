-- `arguments::give`: the entries below s are rewritten.
use Rattle.tables.proofs.Walks.{Rewritten}
use Rattle.arguments.specs.Bytes.{chosen}
use Rattle.arguments.proofs.give.Given as goal

abbrev pub invariant-loop-s : goal.invariant-loop-s
invariant-loop-s l = Rewritten (chosen l.first l.last l.x) l.initial.table l.table l.s
