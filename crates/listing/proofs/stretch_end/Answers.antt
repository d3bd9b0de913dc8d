-- `listing::stretch_end`: from each place on, the entries alike are those behind it.
use mathlib.Core.Path.{◌≡◌, ◌∙◌}
use native.Mathlib.Omega.{arith}
use lib.ListN.{length}
use borrow.Author.Tests.{eq-eqb, ne_eqb}
use Rattle.listing.proofs.Stretches.{alike_here, alike_past, alike_ended}
use Rattle.listing.proofs.stretch_end.Goals as goal

pub returns-then-slots-i : goal.returns-then-slots-i
returns-then-slots-i c = alike_here _ _ _ c.loop-i-test.true (ne_eqb _ _ c.if-slots-i.true) ∙ c.loop-i.invariant

pub loop-i-preserved : goal.loop-i-preserved
loop-i-preserved c = alike_past _ _ _ c.loop-i-test.true (eq-eqb _ _ c.if-slots-i.false) ∙ c.loop-i.invariant

pub returns : goal.returns
returns c =
    let e : length c.args.slots.now ≡ c.loop-i.i = omega arith in
    e ∙ alike_ended _ _ _ c.loop-i-test.false ∙ c.loop-i.invariant
