-- `hexbytes::fill`: in front of the next byte stand the part's bytes.
use mathlib.Core.Path.{◌∙◌}
use native.Mathlib.Omega.{arith}
use native.Mathlib.Nat.{zero-add}
use Rattle.hexdigits.proofs.Bytes.{pair_digits, more_bytes, all_bytes}
use Rattle.hexbytes.proofs.fill.Goals as goal

pub byte_of-requires : goal.byte_of-requires
byte_of-requires c =
    let d = pair_digits _ _ _ c.requires.0 (omega arith) c.pair_at.ensures in
    (d.0, d.1)

pub loop-i-preserved : goal.loop-i-preserved
loop-i-preserved c =
    let d = pair_digits _ _ _ c.requires.0 (omega arith) c.pair_at.ensures in
    more_bytes _ _ _ 0 _ _ c.loop-i-test.true c.loop-i.invariant (rw zero-add (c.byte_of.ensures ∙ d.2))

pub returns : goal.returns
returns c = c.loop-i.invariant ∙ all_bytes _ _ _ _ (omega arith)
