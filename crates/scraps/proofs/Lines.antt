-- A line that gets longer, and what is kept of it.
use mathlib.Core.Path.{◌≡◌, refl, sym, ap, ◌∙◌}
use mathlib.Core.Bool.{Bool, true, false, cond}
use mathlib.Core.List.{List, [], ◌∷◌, ◌++◌, append-nil}
use Prim.Native.Nat.{ℕ, ◌+◌, ◌-◌, ◌≤◌, ◌<◌}
use native.Mathlib.Omega.{arith}
use lib.Dec.{ltb}
use lib.ListN.{length, take, length-append}
use lib.Seq.{append_snoc, length-take-le}
use borrow.Author.Tests.{lt-ltb, le-ltb, ltb-true}
use Rattle.scraps.specs.declared.Kept.{Kept}
use Rattle.scraps.specs.Scraps.{room, Line, short, long, part_of, grown}

-- ---- more characters

pub grown_long : (bs : List ℕ) → grown long bs ≡ long
unfolding grown
grown_long [] = refl
grown_long (b ∷ bs) = grown_long bs

-- they fit
pub fits : (l bs : List ℕ) → length l + length bs ≤ room → grown (short l) bs ≡ short (l ++ bs)
unfolding grown
fits l [] h = rw append-nil
fits l (b ∷ bs) h =
    let n : length l < room = omega arith in
    rw (lt-ltb (length l) room n) (fits (l ++ (b ∷ [])) bs (omega (arith, length-append l (b ∷ []))) ∙ rw append_snoc)

-- they do not fit
pub too_many : (l bs : List ℕ) → length l ≤ room → room < length l + length bs → grown (short l) bs ≡ long
unfolding grown
too_many l [] h g = absurd (omega arith)
too_many l (b ∷ bs) h g =
    go (ltb (length l) room) refl
    (λ k. too_many (l ++ (b ∷ [])) bs (omega (arith, length-append l (b ∷ []))) (omega (arith, length-append l (b ∷ []))))
  where
    go : (t : Bool) → ltb (length l) room ≡ t → (length l < room → grown (short (l ++ (b ∷ []))) bs ≡ long) → grown (cond t (short (l ++ (b ∷ []))) long) bs ≡ long
    go true e ih = ih (ltb-true (length l) room e)
    go false e ih = grown_long bs

-- ---- what is kept

module _ (bytes : List ℕ) (n : ℕ) where
  abbrev kept : Kept
  kept = record { bytes = bytes; length = n }

  pub part_short : n ≤ room → part_of kept ≡ short (take n bytes)
  unfolding part_of
  part_short h = rw (le-ltb room n h)

  pub part_long : room < n → part_of kept ≡ long
  unfolding part_of
  part_long h = rw (lt-ltb room n h)

module _ (bytes more : List ℕ) (n : ℕ) where
  -- a line that is too long stays so
  pub stays : room < n → part_of (kept bytes n) ≡ grown (part_of (kept bytes n)) more
  stays h = rw (part_long bytes n h, grown_long more)

  -- a line becomes too long
  pub becomes : length bytes ≡ room → n ≤ room → room - n < length more → part_of (kept bytes (room + 1)) ≡ grown (part_of (kept bytes n)) more
  becomes w h g =
      part_long bytes (room + 1) (omega arith)
      ∙ sym (ap (λ (l : Line). grown l more) (part_short bytes n h) ∙ too_many (take n bytes) more (omega (arith, length-take-le n bytes (omega arith))) (omega (arith, length-take-le n bytes (omega arith))))

  -- more characters stand behind what was kept
  pub copied : n ≤ length bytes → n ≤ room → length more ≤ room - n → (is : List ℕ) {end : ℕ} → end ≡ n + length more → take end is ≡ take n bytes ++ more
      → part_of (kept is end) ≡ grown (part_of (kept bytes n)) more
  copied w h g is {end} e f =
      part_short is end (omega arith)
      ∙ ap short f
      ∙ sym (fits (take n bytes) more (omega (arith, length-take-le n bytes w)))
      ∙ ap (λ (l : Line). grown l more) (sym (part_short bytes n h))
