-- `plain::claim` meets its contract: each turn is a slot by its fate.
use mathlib.Core.Path.{sym, ◌∙◌}
use Rattle.plain.proofs.Turns.{starts, binds, rebinds, tells, keeps, skips, ends}
use Rattle.plain.proofs.claim.Goals as goal
use Rattle.plain.proofs.claim.Goals.{then-bitmap-s-eq1+in-Bound, then-bitmap-s-eq1+in-Rebound, then-bitmap-s-eq1+in-Stale, then-bitmap-s-eq1+in-Stays, else-bitmap-s-eq1}

pub loop-s-init : goal.loop-s-init
loop-s-init c = starts c.reach-end.ensures

pub loop-s-preserved : goal.loop-s-preserved
loop-s-preserved c =
    let i = c.loop-s.invariant in
    let t = c.loop-s-test.true in
    elim c.if-bitmap-s-eq1.branch [
      | then-bitmap-s-eq1+in-Bound w ↦ rw (w.slots-is, w.bound-is, w.rebound-is, w.stale-is) (binds i t w.if-bitmap-s-eq1.true (sym w.fate_of.ensures ∙ w.in-Bound.is))
      | then-bitmap-s-eq1+in-Rebound w ↦ rw (w.slots-is, w.bound-is, w.rebound-is, w.stale-is) (rebinds i t w.if-bitmap-s-eq1.true (sym w.fate_of.ensures ∙ w.in-Rebound.is))
      | then-bitmap-s-eq1+in-Stale w ↦ rw (w.slots-is, w.bound-is, w.rebound-is, w.stale-is) (tells i t w.if-bitmap-s-eq1.true w.or-stale.ensures (sym w.fate_of.ensures ∙ w.in-Stale.is))
      | then-bitmap-s-eq1+in-Stays w ↦ rw (w.slots-is, w.bound-is, w.rebound-is, w.stale-is) (keeps i t w.if-bitmap-s-eq1.true (sym w.fate_of.ensures ∙ w.in-Stays.is))
      | else-bitmap-s-eq1 w ↦ rw (w.slots-is, w.bound-is, w.rebound-is, w.stale-is) (skips i t w.if-bitmap-s-eq1.false)
    ]

pub returns : goal.returns
returns c = ends c.loop-s.invariant c.reach-end.ensures c.loop-s-test.false
