-- `marks::find` meets its contract.
use mathlib.Core.Path.{sym, ap, ◌∙◌}
use native.Mathlib.Omega.{arith}
use lib.ListN.{drop_of_length-le}
use Rattle.marks.specs.Marks.{marking_of}
use Rattle.marks.proofs.Loops.{found, missed}
use Rattle.marks.proofs.find.Goals as goal

pub returns-then-mark-slot : goal.returns-then-mark-slot
returns-then-mark-slot c = rw (← c.marks_of-marks.ensures.0) (sym (c.loop-mark.invariant ∙ found c.marks_of-marks.result.now c.loop-mark.mark-index (omega arith) _ c.if-mark-slot.true))

pub loop-mark-preserved : goal.loop-mark-preserved
loop-mark-preserved c = c.loop-mark.invariant ∙ missed c.marks_of-marks.result.now c.loop-mark.mark-index (omega arith) _ c.if-mark-slot.false

pub returns : goal.returns
unfolding marking_of
returns c = rw (← c.marks_of-marks.ensures.0) (sym (c.loop-mark.invariant ∙ ap (marking_of c.args.slot) (drop_of_length-le c.marks_of-marks.result.now (omega arith))))
