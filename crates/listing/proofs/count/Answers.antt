-- `listing::count`: what was counted, and the ranges from the slot on.
use mathlib.Core.Path.{◌≡◌, ◌∙◌}
use Prim.Native.Nat.{◌-◌}
use lib.ListN.{length}
use native.Mathlib.Omega.{arith}
use Rattle.listing.proofs.Stretches.{counting, counting_last}
use Rattle.listing.proofs.count.Goals as goal

pub loop-s-init : goal.loop-s-init
loop-s-init c = record { few = omega arith; counted = omega arith }

pub overflow_add-n : goal.overflow_add-n
overflow_add-n c = omega (arith, c.ending-n.ensures.1)

pub loop-s-preserved : goal.loop-s-preserved
loop-s-preserved c =
    let l = c.loop-s in
    record {
      few = omega (arith, c.ending-n.ensures.1);
      counted = rw c.ending-n.ensures.0 (counting _ _ _ _ (omega arith) ∙ l.invariant.counted);
    }

pub overflow_add-result : goal.overflow_add-result
overflow_add-result c = omega (arith, c.owned.ensures.1)

pub returns : goal.returns
returns c =
    let e : c.loop-s.s ≡ length c.args.slots.now - 1 = omega arith in
    rw (c.owned.ensures.0, ← e) (counting_last _ _ _ _ (omega arith) ∙ c.loop-s.invariant.counted)
