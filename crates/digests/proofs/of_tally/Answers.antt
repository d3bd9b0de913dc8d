-- `digests::of_tally` meets its contract.
use Rattle.std.specs.Prelude.{ℕ, None, Option, Some}
use Prim.Native.Nat.{◌<◌}
use native.Mathlib.Omega.{arith}
use Rattle.digests.specs.Digest.{place}
use Rattle.digests.proofs.of_tally.Goals as goal

place-small : (z : Option ℕ) → place z < 65536
place-small None = omega arith
place-small (Some s) = omega arith

pub overflow_mul-result-2 : goal.overflow_mul-result-2
overflow_mul-result-2 c = rw c.place.ensures (omega (arith, place-small c.args.tally.stale))

pub overflow_add-result-2 : goal.overflow_add-result-2
overflow_add-result-2 c = rw c.place.ensures (omega (arith, place-small c.args.tally.stale))
