-- `hexdigits::number_at`: the number so far is that of the bytes so far, and has room for one more.
use mathlib.Core.Path.{refl, ◌∙◌}
use Prim.Native.Nat.{◌+◌}
use native.Mathlib.Omega.{arith}
use Rattle.hexdigits.specs.Hex.{number_at}
use Rattle.hexdigits.proofs.Bytes.{byte_lt, room, one_more}
use Rattle.hexdigits.proofs.number_at.Goals as goal

pub loop-k-init : goal.loop-k-init
unfolding number_at
loop-k-init c = refl

pub overflow_mul-n : goal.overflow_mul-n
overflow_mul-n c = omega (arith, room c.args.line.now c.args.i c.loop-k.k c.loop-k-test.true, c.loop-k.invariant)

pub overflow_add-n : goal.overflow_add-n
overflow_add-n c =
    let l = c.loop-k in
    let a = c.args in
    omega (arith, room a.line.now a.i l.k c.loop-k-test.true, l.invariant, byte_lt a.line.now (a.i + l.k))

pub loop-k-preserved : goal.loop-k-preserved
loop-k-preserved c = one_more _ _ _ _ _ c.loop-k.invariant (c.from.ensures ∙ c.byte_after.ensures)
