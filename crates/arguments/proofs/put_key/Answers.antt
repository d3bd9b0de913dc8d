-- `arguments::put_key`: after i turns the first i bytes are written.
use mathlib.Core.Path.{◌≡◌, refl}
use Prim.Native.Nat.{◌/◌}
use native.Mathlib.Omega.{arith}
use lib.ListN.{length}
use Rattle.lines.specs.Texts.{puts}
use Rattle.lines.proofs.Texts.{puts_append}
use Rattle.hexdigits.specs.Hex.{bytes_at}
use Rattle.arguments.specs.Bytes.{key_bytes}
use Rattle.arguments.proofs.Bytes.{one_byte}
use Rattle.arguments.proofs.put_key.Goals as goal

pub loop-i-init : goal.loop-i-init
unfolding bytes_at puts
loop-i-init c = refl

pub loop-i-preserved : goal.loop-i-preserved
loop-i-preserved c = simp (c.put.ensures, c.loop-i.invariant, c.byte_at.ensures, one_byte, puts_append)

pub returns : goal.returns
unfolding key_bytes
returns c = let e : length c.args.digits.now / 2 ≡ c.loop-i.i = omega arith in rw e c.loop-i.invariant
