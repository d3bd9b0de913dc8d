-- `spelling::decode`: after n turns n bytes are decoded, and the digits that are left stand untouched.
use mathlib.Core.Path.{◌≡◌}
use Prim.Native.Nat.{◌/◌}
use native.Mathlib.Omega.{arith}
use lib.ListN.{length}
use Rattle.spelling.proofs.Lines.{high_stops, low_stops, turn, odd_stops, whole}
use Rattle.spelling.proofs.decode.Goals.{then-high-gt15-via-then-high-gt15, then-high-gt15-via-else-high-gt15+then-low-gt15}
use Rattle.spelling.proofs.decode.Goals as goal

pub returns-then-high-gt15 : goal.returns-then-high-gt15
returns-then-high-gt15 c =
    let d = c.loop-n.invariant in (
      elim c.then-high-gt15.branch [
        | then-high-gt15-via-then-high-gt15 w ↦ high_stops d (omega (arith, d.same)) _ _ c.digit-high.ensures c.digit-low.ensures w.if-high-gt15.true
        | then-high-gt15-via-else-high-gt15+then-low-gt15 w ↦
            low_stops d (omega (arith, d.same)) _ _ c.digit-high.ensures c.digit-low.ensures w.if-high-gt15.false w.if-low-gt15.true
      ],
      tt,
    )

pub loop-n-preserved : goal.loop-n-preserved
loop-n-preserved c =
    let d = c.loop-n.invariant in
    turn d (omega (arith, d.same)) _ _ c.digit-high.ensures c.digit-low.ensures c.if-high-gt15.false c.if-low-gt15.false

pub returns-then-line-eq1 : goal.returns-then-line-eq1
returns-then-line-eq1 c = let d = c.loop-n.invariant in (odd_stops d (omega (arith, d.same)) (omega (arith, d.same)), tt)

pub returns : goal.returns
returns c =
    let d = c.loop-n.invariant in
    let n : length c.args.line.now / 2 ≡ c.loop-n.n = omega (arith, d.same) in
    (rw n (whole d (omega (arith, d.same))), omega (arith, d.same))
