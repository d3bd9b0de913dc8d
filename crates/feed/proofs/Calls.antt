-- What a caller's loop rests on: a call uses no more of its piece than there is, and some of it where it answers a line.
use Rattle.std.specs.Prelude.{None, Option, Some}
use mathlib.Core.Path.{◌≡◌, refl}
use Prim.Native.Nat.{ℕ, ◌≤◌, ◌<◌}
use mathlib.Core.List.{List}
use native.Mathlib.Omega.{arith}
use lib.ListN.{length}
use Rattle.tables.specs.Lists.{first_byte, newline}
use Rattle.tables.proofs.Walks.{first_within}
use Rattle.answers.specs.declared.Answer.{Answer}
use Rattle.scraps.specs.Scraps.{up_to, takes}
use Rattle.feed.specs.Feed.{Station, after, feeds}

module _ (s : Station) (piece : List ℕ) where
  pub within : (feeds s piece).used ≤ length piece
  unfolding feeds takes
  within = go (first_byte newline piece) refl
    where
      go : (f : Option ℕ) → first_byte newline piece ≡ f → (after s (up_to s.line piece f)).used ≤ length piece
      go None e = omega arith
      go (Some k) e = omega (arith, first_within _ piece 0 k e)

  pub some : (a : Answer) → (feeds s piece).told ≡ Some a → 0 < (feeds s piece).used
  unfolding feeds takes
  some a = go (first_byte newline piece)
    where
      go : (f : Option ℕ) → (after s (up_to s.line piece f)).told ≡ Some a → 0 < (after s (up_to s.line piece f)).used
      go None e = let z : ◌≡◌ {A = ℕ} 0 1 = cc in absurd (omega arith)
      go (Some k) e = omega arith
