-- `marks::set_mark` meets its contract: 1 and 7, and then the checks of a mark.
use mathlib.Core.Path.{sym, ap, ◌∙◌}
use lib.ListN.{length}
use lib.Dec.{eqb}
use Rattle.tables.specs.Sizes.{slot_count}
use Rattle.answers.proofs.Checks.{on_check, in_two}
use Rattle.state.specs.Outcomes.{answered}
use Rattle.entry.specs.Entry.{entry_checks}
use Rattle.marks.specs.MarkChanges.{mark_checks, set_mark}
use Rattle.marks.proofs.set_mark.Goals as goal

pub returns-in-Err : goal.returns-in-Err
unfolding set_mark
returns-in-Err c =
    let a = c.args in
    sym (in_two (answered a.node) (entry_checks (eqb (length a.slots.now) slot_count) a.node) (mark_checks a.node a.slots.now a.slot a.movement) _ ∙ ap (on_check (answered a.node) _) (sym c.checks-check.ensures ∙ c.in-Err.is))

pub returns-in-Ok : goal.returns-in-Ok
unfolding set_mark
returns-in-Ok c =
    let a = c.args in
    c.mark_slot.ensures ∙ sym (in_two (answered a.node) (entry_checks (eqb (length a.slots.now) slot_count) a.node) (mark_checks a.node a.slots.now a.slot a.movement) _ ∙ ap (on_check (answered a.node) _) (sym c.checks-check.ensures ∙ c.in-Ok.is))
