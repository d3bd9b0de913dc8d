-- `totals::put_share`: nothing, one slot, or several.
use borrow.Author.Tests.{eq-eqb, ne_eqb}
use Rattle.lines.specs.Texts.{puts, ascii}
use Rattle.totals.specs.Totals.{share}
use Rattle.totals.proofs.put_share.Goals as goal

pub returns-then-count-eq0 : goal.returns-then-count-eq0
unfolding share puts
returns-then-count-eq0 c = rw (eq-eqb _ _ c.if-count-eq0.true)

pub returns-then-count-eq1 : goal.returns-then-count-eq1
unfolding share ascii
returns-then-count-eq1 c =
    rw (ne_eqb _ _ c.if-count-eq0.false, eq-eqb _ _ c.if-count-eq1.true) c.put_filled.ensures

pub returns : goal.returns
unfolding share ascii
returns c =
    rw (ne_eqb _ _ c.if-count-eq0.false, ne_eqb _ _ c.if-count-eq1.false) c.put_filled-2.ensures
