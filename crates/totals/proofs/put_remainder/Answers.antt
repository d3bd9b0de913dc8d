-- `totals::put_remainder`: no slot, one, or several.
use borrow.Author.Tests.{eq-eqb, ne_eqb}
use Rattle.lines.specs.Texts.{ascii}
use Rattle.totals.specs.Totals.{remainder}
use Rattle.totals.proofs.put_remainder.Goals as goal

pub returns-then-left-eq0 : goal.returns-then-left-eq0
unfolding remainder ascii
returns-then-left-eq0 c = rw (eq-eqb _ _ c.if-left-eq0.true) c.put_text.ensures

pub returns-then-left-eq1 : goal.returns-then-left-eq1
unfolding remainder ascii
returns-then-left-eq1 c =
    rw (ne_eqb _ _ c.if-left-eq0.false, eq-eqb _ _ c.if-left-eq1.true) c.put_text-then-left-eq1.ensures

pub returns : goal.returns
unfolding remainder ascii
returns c =
    rw (ne_eqb _ _ c.if-left-eq0.false, ne_eqb _ _ c.if-left-eq1.false) c.put_filled.ensures
