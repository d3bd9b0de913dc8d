-- `marks::clear_mark` meets its contract.
use mathlib.Core.Path.{sym, ap, ◌∙◌}
use Rattle.answers.specs.declared.Answer.TheVariants.{Done}
use Rattle.answers.proofs.Checks.{on_check, by_check}
use Rattle.state.specs.Outcomes.{answered}
use Rattle.state.specs.declared.Node.{Node}
use Rattle.marks.specs.MarkChanges.{clear_checks, unmarking, clear_mark}
use Rattle.marks.proofs.clear_mark.Goals as goal

pub returns-in-Err : goal.returns-in-Err
unfolding clear_mark
returns-in-Err c =
    let n = c.args.node in
    sym (by_check (answered n) (clear_checks n c.args.slot) (answered (unmarking c.args.slot n) Done) ∙ ap (on_check (answered n) _) (sym c.clear_check-check.ensures ∙ c.in-Err.is))

pub returns-in-Ok : goal.returns-in-Ok
unfolding clear_mark
returns-in-Ok c =
    let n = c.args.node in
    sym (by_check (answered n) (clear_checks n c.args.slot) (answered (unmarking c.args.slot n) Done) ∙ ap (on_check (answered n) _) (sym c.clear_check-check.ensures ∙ c.in-Ok.is) ∙ sym (ap (λ (x : Node). answered x Done) c.without-rest.ensures))
