-- Digits in groups: a comma behind a digit or none, and one digit after the other.
use mathlib.Core.Path.{◌≡◌}
use mathlib.Core.List.{List, [], ◌∷◌, ◌++◌}
use Prim.Native.Nat.{ℕ, suc, ◌+◌, ◌-◌, ◌%◌, ◌≤◌, ◌<◌}
use native.Mathlib.Numerals.{add-one}
use native.Mathlib.Omega.{arith}
use lib.ListN.{length, drop, get_or, length-drop, drop_of_length-le}
use lib.Seq.{drop-cons}
use borrow.Author.Tests.{lt-ltb, eq-eqb}
use Rattle.phrases.specs.Phrases.{comma, with_comma, commas}

module _ (d n : ℕ) where
  pub before_groups : 0 < n → n % 3 ≡ 0 → with_comma d n ≡ d ∷ comma ∷ []
  before_groups h e = rw (lt-ltb 0 n h, eq-eqb (n % 3) 0 e)

-- the digits from place i on
module _ (ds : List ℕ) (i : ℕ) where
  pub next_digit : i < length ds → commas (drop i ds) ≡ with_comma (get_or ds i 0) (length ds - 1 - i) ++ commas (drop (i + 1) ds)
  unfolding commas
  next_digit h =
      let z : length ds - suc i ≡ length ds - 1 - i = omega arith in
      rw (drop-cons ds i 0 h, add-one i, commas, length-drop (suc i) ds, z)

  pub no_digit : length ds ≤ i → commas (drop i ds) ≡ []
  unfolding commas
  no_digit h = rw (drop_of_length-le ds h)
