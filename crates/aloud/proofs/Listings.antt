-- A list read three numbers at a time, and the lines of its ranges one after the other.
use mathlib.Core.Path.{◌≡◌, refl, ap}
use mathlib.Core.List.{List, [], ◌∷◌, ◌++◌}
use Prim.Native.Nat.{ℕ, suc, ◌+◌, ◌-◌, ◌≤◌, ◌<◌}
use native.Mathlib.Numerals.{add-one}
use native.Mathlib.Omega.{arith}
use lib.ListN.{length, drop, get_or, length-drop}
use lib.Seq.{drop-cons}
use Rattle.tables.specs.Sizes.{slot_count}
use Rattle.listing.specs.Listing.{Range, range, flat}
use Rattle.aloud.specs.Aloud.{owned_line, gap, spoken_from, ranges_of, ReadsBack}

pub reads_back : (rs : List Range) → ReadsBack rs
unfolding ranges_of flat
reads_back [] = refl
reads_back (r ∷ rs) = ap (λ (qs : List Range). r ∷ qs) (reads_back rs)

-- fewer than three numbers are no range
too_few : (list : List ℕ) → length list < 3 → ranges_of list ≡ []
unfolding ranges_of
too_few [] h = refl
too_few (a ∷ []) h = refl
too_few (a ∷ b ∷ []) h = refl
too_few (a ∷ b ∷ o ∷ list) h = absurd (omega arith)

-- the next range, with what is unowned before it
module _ (margin list : List ℕ) (next : ℕ) where
  three : 3 ≤ length list → ranges_of list ≡ range (get_or list 0 0) (get_or list 1 0) (get_or list 2 0) ∷ ranges_of (drop 3 list)
  unfolding ranges_of
  three h = by list h
    where
      by : (l : List ℕ) → 3 ≤ length l → ranges_of l ≡ range (get_or l 0 0) (get_or l 1 0) (get_or l 2 0) ∷ ranges_of (drop 3 l)
      by [] g = absurd (omega arith)
      by (a ∷ []) g = absurd (omega arith)
      by (a ∷ b ∷ []) g = absurd (omega arith)
      by (a ∷ b ∷ o ∷ l) g = refl

  pub next_range : 3 ≤ length list
      → spoken_from margin next (ranges_of list)
      ≡ gap margin next (get_or list 0 0) ++ margin ++ owned_line (range (get_or list 0 0) (get_or list 1 0) (get_or list 2 0)) ++ spoken_from margin (get_or list 1 0 + 1) (ranges_of (drop 3 list))
  unfolding spoken_from
  next_range h = rw (three h, add-one (get_or list 1 0))

  -- and what is unowned behind the last one
  pub no_range : length list < 3 → spoken_from margin next (ranges_of list) ≡ gap margin next slot_count
  unfolding spoken_from
  no_range h = rw (too_few list h)
