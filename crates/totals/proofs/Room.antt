-- Each node's share is short, and so is what is said of the rest.
use mathlib.Core.Bool.{Bool, true, false, not, cond}
use mathlib.Core.List.{List, [], ◌∷◌}
use Prim.Native.Nat.{ℕ, zero, suc, ◌*◌, ◌≤◌, ◌<◌}
use native.Mathlib.Omega.{arith}
use lib.Dec.{eqb, ltb}
use lib.ListN.{length, length-append}
use Rattle.tables.specs.Lists.{count_from}
use Rattle.lines.specs.Texts.{ascii}
use Rattle.phrases.proofs.Lengths.{short}
use Rattle.totals.specs.Totals.{owned, ownerless, by_count, share, shares, remainder, totals}
use Rattle.totals.specs.Room.{RoomEnough}

-- no more are counted than there are
within : (p : ℕ → ℕ → Bool) (i : ℕ) (xs : List ℕ) → count_from p i xs ≤ length xs
unfolding count_from
within p i [] = omega arith
within p i (x ∷ xs) = by (p i x) (within p (suc i) xs)
  where
    by : (t : Bool) → count_from p (suc i) xs ≤ length xs → cond t (suc (count_from p (suc i) xs)) (count_from p (suc i) xs) ≤ suc (length xs)
    by true h = omega arith
    by false h = omega arith

one_of : (most n : ℕ) (none one more : List ℕ) → length none ≤ most → length one ≤ most → length more ≤ most → length (by_count n none one more) ≤ most
one_of most n none one more a b c = by (eqb n 0) (eqb n 1)
  where
    by : (s t : Bool) → length (cond s none (cond t one more)) ≤ most
    by true t = a
    by false true = b
    by false false = c

share_short : (k n : ℕ) → k < 65536 → n ≤ 16384 → length (share k n) ≤ 40
unfolding share ascii
share_short k n h g =
    one_of 40 n [] _ _ (omega arith)
    (omega (arith, short (ascii "node % owns 1 slot; ") (k ∷ []) (omega arith, tt)))
    (omega (arith, short (ascii "node % owns % slots; ") (k ∷ n ∷ []) (omega arith, (omega arith, tt))))

remainder_short : (n : ℕ) → n ≤ 16384 → length (remainder n) ≤ 32
unfolding remainder ascii
remainder_short n g = one_of 32 n _ _ _ (omega arith) (omega arith) (omega (arith, short (ascii "% slots are unowned\n") (n ∷ []) (omega arith, tt)))

shares_short : (slots : List ℕ) (size : ℕ) → length slots ≤ 16384 → size ≤ 65536 → length (shares slots size) ≤ 40 * size
unfolding shares
shares_short slots zero h g = omega arith
shares_short slots (suc k) h g =
    omega (
      arith,
      length-append (shares slots k) (share k (owned slots k)),
      shares_short slots k h (omega arith),
      share_short k (owned slots k) (omega arith) (omega (arith, within (λ s o. eqb o k) 0 slots)),
    )

pub room_enough : (size : ℕ) (slots : List ℕ) → RoomEnough size slots
unfolding totals ascii
room_enough size slots e g =
    let n : ownerless size slots ≤ 16384 = omega (arith, within (λ s o. not (ltb o size)) 0 slots) in
    simp length-append (omega (arith, shares_short slots size (omega arith) g, remainder_short (ownerless size slots) n))
