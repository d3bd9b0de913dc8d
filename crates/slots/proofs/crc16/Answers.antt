-- `slots::crc16`: from each place on, the rest is divided on.
use Rattle.std.proofs.Common.{◌≡◌, ◌/◌, ◌∙◌, refl, sym, length, arith}
use Rattle.slots.specs.Key.{crc16}
use Rattle.slots.proofs.Crc.{pair_more, one_more, no_more}
use Rattle.slots.proofs.crc16.Goals as goal

pub loop-pair-init : goal.loop-pair-init
unfolding crc16
loop-pair-init c = refl

pub loop-pair-preserved : goal.loop-pair-preserved
loop-pair-preserved c =
    let all = c.as_chunks.ensures in
    rw (c.with_pair-crc.ensures, all.front) (c.loop-pair.invariant ∙ pair_more c.args.bytes.now c.loop-pair.pair-index c.loop-pair.crc (omega (arith, all.front_len)))

pub loop-byte-init : goal.loop-byte-init
loop-byte-init c =
    let all = c.as_chunks.ensures in
    let end : c.loop-pair.pair-index ≡ length c.args.bytes.now / 2 = omega (arith, all.front_len) in
    rw (all.back, ← end) c.loop-pair.invariant

pub loop-byte-preserved : goal.loop-byte-preserved
loop-byte-preserved c = rw c.with_byte-crc.ensures (c.loop-byte.invariant ∙ one_more _ _ _ c.loop-byte-test.true)

pub returns : goal.returns
returns c = sym (c.loop-byte.invariant ∙ no_more _ _ _ c.loop-byte-test.false)
