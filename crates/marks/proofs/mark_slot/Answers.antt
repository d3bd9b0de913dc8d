-- `marks::mark_slot` meets its contract.
use mathlib.Core.Path.{◌≡◌, sym, ap, ◌∙◌}
use Prim.Native.Nat.{◌<◌}
use native.Mathlib.Omega.{arith}
use lib.ListN.{length}
use borrow.Author.Tests.{leb-false}
use Rattle.tables.specs.Sizes.{mark_room}
use Rattle.answers.specs.declared.Answer.TheVariants.{Done}
use Rattle.answers.proofs.Checks.{on_check, by_check, unrefused}
use Rattle.state.specs.Outcomes.{answered}
use Rattle.state.specs.Changes.{with_marks}
use Rattle.state.specs.declared.Node.{Node}
use Rattle.marks.specs.Marks.{marks_of, others}
use Rattle.marks.specs.MarkChanges.{mark_checks, marking}
use Rattle.marks.proofs.Loops.{again}
use Rattle.marks.proofs.mark_slot.Goals as goal

pub mark_check-check-requires : goal.mark_check-check-requires
unfolding with_marks
mark_check-check-requires c = (c.requires, ap (λ (x : Node). x.marked) c.without-rest.ensures)

pub with_mark-next-requires : goal.with_mark-next-requires
unfolding with_marks
with_mark-next-requires c =
    let a = c.args in
    let r = others a.slot (marks_of a.node) in
    let room : length r < mark_room = leb-false mark_room (length r) (unrefused 20 (mark_checks a.node a.slots.now a.slot a.movement) (sym c.mark_check-check.ensures ∙ c.in-Ok.is)) in
    let e : c.without-rest.result.marked ≡ length r = ap (λ (x : Node). x.marked) c.without-rest.ensures in
    omega arith

pub returns-in-Err : goal.returns-in-Err
returns-in-Err c =
    let a = c.args in
    sym (by_check (answered a.node) (mark_checks a.node a.slots.now a.slot a.movement) (answered (marking a.slot a.movement a.node) Done) ∙ ap (on_check (answered a.node) _) (sym c.mark_check-check.ensures ∙ c.in-Err.is))

pub returns-in-Ok : goal.returns-in-Ok
unfolding with_marks
returns-in-Ok c =
    let a = c.args in
    let next = c.with_mark-next.ensures ∙ rw c.without-rest.ensures (again a.node _ _) in
    sym (by_check (answered a.node) (mark_checks a.node a.slots.now a.slot a.movement) (answered (marking a.slot a.movement a.node) Done) ∙ ap (on_check (answered a.node) _) (sym c.mark_check-check.ensures ∙ c.in-Ok.is) ∙ sym (ap (λ (x : Node). answered x Done) next))
