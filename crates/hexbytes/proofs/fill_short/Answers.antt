-- `hexbytes::fill_short`: in front of the next byte stand the line's bytes.
use mathlib.Core.Path.{◌∙◌}
use native.Mathlib.Omega.{arith}
use Rattle.hexdigits.proofs.Bytes.{more_bytes, all_bytes}
use Rattle.hexbytes.proofs.fill_short.Goals as goal

pub loop-k-preserved : goal.loop-k-preserved
loop-k-preserved c = more_bytes _ _ _ _ _ _ c.loop-k-test.true c.loop-k.invariant c.byte_after.ensures

pub returns : goal.returns
returns c = c.loop-k.invariant ∙ all_bytes _ _ _ _ (omega arith)
