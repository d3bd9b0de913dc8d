-- `tables::stands_in`: what was found so far, or stands in the rest.
use mathlib.Core.Path.{sym, ap, ◌∙◌}
use mathlib.Core.Bool.{Bool, ◌||◌, or-false, or_assoc}
use Rattle.tables.proofs.Walks.{occurs_turn, occurs_ended}
use Rattle.tables.proofs.stands_in.Goals as goal

pub loop-entry-preserved : goal.loop-entry-preserved
loop-entry-preserved c =
    let l = c.loop-entry in
    l.invariant
    ∙ ap (λ (b : Bool). l.found || b) (occurs_turn _ _ l.entry-index c.loop-entry-test.true)
    ∙ sym (or_assoc l.found _ _)

pub returns : goal.returns
returns c =
    let l = c.loop-entry in
    sym (l.invariant ∙ ap (λ (b : Bool). l.found || b) (occurs_ended _ _ l.entry-index c.loop-entry-test.false) ∙ or-false l.found)
