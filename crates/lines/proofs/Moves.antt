-- What is kept of a line that has not ended yet, and where the next one ends.
use Rattle.std.specs.Prelude.{None, Option, Some}
use Rattle.std.specs.List.{copy_within}
use mathlib.Core.Path.{◌≡◌, refl}
use mathlib.Core.Bool.{Bool, true, false, cond}
use mathlib.Core.Logic.{◌⊎◌, inl, inr}
use mathlib.Core.List.{List}
use Prim.Native.Nat.{ℕ, ◌+◌, ◌-◌, ◌≤◌, ◌<◌}
use native.Mathlib.Nat.{zero-add}
use native.Mathlib.Omega.{arith}
use lib.Dec.{ltb}
use lib.ListN.{length, drop, length-take}
use borrow.Author.Tests.{le-ltb, ltb-false}
use Rattle.tables.proofs.Walks.{first_within}
use Rattle.tables.specs.Lists.{first_byte, newline}
use Rattle.lines.specs.Lines.{between, onwards, line_end, shifted, Kept, unfinished}

abbrev kept_as : ℕ → List ℕ → Kept
kept_as k l = record { rest = Some k; buf = l }

module _ (was : List ℕ) (from end : ℕ) where
  pub gone : record { rest = None; buf = was } ≡ unfinished was from end true
  unfolding unfinished
  gone = refl

  -- nothing is kept of a line that ends before it starts, nor of one that ends past the buffer
  pub nothing : (end < from) ⊎ (from ≤ end × length was < end) → kept_as 0 was ≡ unfinished was from end false
  unfolding unfinished
  nothing h = by (ltb (length was) end) refl
    where
      by : (t : Bool) → ltb (length was) end ≡ t → kept_as 0 was ≡ cond t (kept_as 0 was) (kept_as (end - from) (shifted was from end))
      by true e = refl
      by false e = let z : end - from ≡ 0 = elim h [ inl g ↦ omega arith | inr g ↦ absurd (omega (arith, g.1, ltb-false (length was) end e)) ] in rw z

  pub kept : from ≤ end → end ≤ length was → {is : List ℕ} → is ≡ copy_within was from end 0 → kept_as (end - from) is ≡ unfinished was from end false
  unfolding unfinished
  kept h g e = rw (le-ltb (length was) end g, e, zero-add)

module _ (buf : List ℕ) (from end : ℕ) where
  pub outside : (end < from) ⊎ (length buf < end) → None ≡ line_end buf from end
  unfolding line_end
  outside h = by (ltb (length buf) end) (ltb end from) refl refl
    where
      by : (s t : Bool) → ltb (length buf) end ≡ s → ltb end from ≡ t → None ≡ cond s None (cond t None (onwards from (first_byte newline (between buf from end))))
      by true t e f = refl
      by false true e f = refl
      by false false e f = absurd (elim h [ inl g ↦ omega (arith, ltb-false end from f) | inr g ↦ omega (arith, ltb-false (length buf) end e) ])

  pub within : from ≤ end → end ≤ length buf → {part : List ℕ} → part ≡ between buf from end → onwards from (first_byte newline part) ≡ line_end buf from end
  unfolding line_end
  within h g e = rw (le-ltb (length buf) end g, le-ltb end from h, e)

-- a newline that is found in a part stands before the part's end
pub found_within : (b from end k : ℕ) (buf : List ℕ) → first_byte b (between buf from end) ≡ Some k → k < end - from
found_within b from end k buf e = omega (arith, first_within _ (between buf from end) 0 k e, length-take (end - from) (drop from buf))

-- the end of a line is found ahead, and before the end of what was read
pub ends_ahead : (buf : List ℕ) (from end k : ℕ) → line_end buf from end ≡ Some k → (from ≤ k) × (k < end)
unfolding line_end
ends_ahead buf from end k = inside (ltb (length buf) end)
  where
    found : (f : Option ℕ) → first_byte newline (between buf from end) ≡ f → onwards from f ≡ Some k → (from ≤ k) × (k < end)
    found None q e = let z : ◌≡◌ {A = ℕ} 0 1 = cc in absurd (omega arith)
    found (Some j) q e = let z : from + j ≡ k = cc in (omega arith, omega (arith, found_within newline from end j buf q))

    ordered : (t : Bool) → cond t None (onwards from (first_byte newline (between buf from end))) ≡ Some k → (from ≤ k) × (k < end)
    ordered true e = let z : ◌≡◌ {A = ℕ} 0 1 = cc in absurd (omega arith)
    ordered false e = found (first_byte newline (between buf from end)) refl e

    inside : (t : Bool) → cond t None (cond (ltb end from) None (onwards from (first_byte newline (between buf from end)))) ≡ Some k → (from ≤ k) × (k < end)
    inside true e = let z : ◌≡◌ {A = ℕ} 0 1 = cc in absurd (omega arith)
    inside false e = ordered (ltb end from) e
