-- `marks::find` meets its contract.
use mathlib.Core.Path.{◌≡◌}
use lib.ListN.{drop}
use Rattle.marks.specs.Marks.{marking_of}
use Rattle.marks.proofs.find.Given as goal

abbrev pub invariant-loop-mark : goal.invariant-loop-mark
invariant-loop-mark l = marking_of l.slot l.marks ≡ marking_of l.slot (drop l.mark-index l.marks)
