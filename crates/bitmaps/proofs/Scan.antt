-- A word read from its lowest bit on: `trailing_zeros` says where that is, and `word & (word - 1)` leaves the bits above it.
use mathlib.Core.Path.{◌≡◌, refl, sym, ap, ◌∙◌}
use mathlib.Core.Bool.{Bool, true, false, cond}
use Prim.Native.Nat.{ℕ, zero, suc, ◌-◌, ◌/◌, ◌%◌, ◌^◌, ◌≤◌, ◌<◌}
use native.Mathlib.Nat.{lt_of_le_of_lt, pow-suc}
use native.Mathlib.Decide.{dec_lt}
use native.Mathlib.Omega.{arith}
use lib.Bits.{bit_and, and_le_l, and_le_r}
use lib.Pow.{pow_pos}
use lib.Count.{count_trailing_zeros, under, trailing_of_zero, trailing_le}
use borrow.Author.Tests.{eq-eqb, ne_eqb}
use Rattle.tables.specs.Sets.{bit}
use Rattle.tables.proofs.Checks.{never}
use Rattle.tables.proofs.Groups.{bit_suc}
use Rattle.tables.proofs.Sets.{cond_false}
use Rattle.tables.proofs.Words.{bits_both}

-- ---- the lowest bit of a number

even : (w : ℕ) → 0 ≡ w % 2 → bit w 0 ≡ false
even w e = ne_eqb (w / 1 % 2) 1 (λ q. omega arith)

odd : (w : ℕ) → 1 ≡ w % 2 → bit w 0 ≡ true
odd w e = eq-eqb (w / 1 % 2) 1 (omega arith)

-- ---- the lowest bit that is set, among n

-- below it none is
below : (n w k : ℕ) → k < count_trailing_zeros n w → bit w k ≡ false
unfolding count_trailing_zeros
below zero w k h = absurd (omega arith)
below (suc n) w k h = by (w % 2) refl (below n (w / 2)) k h
  where
    by : (d : ℕ) → d ≡ w % 2 → ((j : ℕ) → j < count_trailing_zeros n (w / 2) → bit (w / 2) j ≡ false) → (k : ℕ) → k < under d (count_trailing_zeros n (w / 2)) → bit w k ≡ false
    by zero e f zero h = even w e
    by zero e f (suc k) h = bit_suc w k ∙ f k (omega arith)
    by (suc d) e f k h = absurd (omega arith)

-- it is set
there : (n w : ℕ) → count_trailing_zeros n w < n → bit w (count_trailing_zeros n w) ≡ true
unfolding count_trailing_zeros
there zero w h = absurd (omega arith)
there (suc n) w h = by (w % 2) refl (there n (w / 2)) h
  where
    by : (d : ℕ) → d ≡ w % 2 → (count_trailing_zeros n (w / 2) < n → bit (w / 2) (count_trailing_zeros n (w / 2)) ≡ true) → under d (count_trailing_zeros n (w / 2)) < suc n → bit w (under d (count_trailing_zeros n (w / 2))) ≡ true
    by zero e f h = bit_suc w (count_trailing_zeros n (w / 2)) ∙ f (omega arith)
    by (suc zero) e f h = odd w e
    by (suc (suc d)) e f h = absurd (omega arith)

-- a number that is not 0 has one
some : (n w : ℕ) → w < 2 ^ n → (w ≡ 0 → ⊥) → count_trailing_zeros n w < n
unfolding count_trailing_zeros
some zero w h f = absurd (f (omega arith))
some (suc n) w h f = by (w % 2) refl (some n (w / 2))
  where
    by : (d : ℕ) → d ≡ w % 2 → (w / 2 < 2 ^ n → (w / 2 ≡ 0 → ⊥) → count_trailing_zeros n (w / 2) < n) → under d (count_trailing_zeros n (w / 2)) < suc n
    by zero e g = let l : count_trailing_zeros n (w / 2) < n = g (omega (arith, h, pow-suc 2 n)) (λ q. f (omega arith)) in omega arith
    by (suc d) e g = omega arith

-- ---- the number before

-- it has the same bits above that one
before_above : (n w k : ℕ) → count_trailing_zeros n w < n → count_trailing_zeros n w < k → bit (w - 1) k ≡ bit w k
unfolding count_trailing_zeros
before_above zero w k h g = absurd (omega arith)
before_above (suc n) w k h g = by (w % 2) refl (before_above n (w / 2)) k h g
  where
    by : (d : ℕ) → d ≡ w % 2 → ((j : ℕ) → count_trailing_zeros n (w / 2) < n → count_trailing_zeros n (w / 2) < j → bit (w / 2 - 1) j ≡ bit (w / 2) j)
        → (k : ℕ) → under d (count_trailing_zeros n (w / 2)) < suc n → under d (count_trailing_zeros n (w / 2)) < k → bit (w - 1) k ≡ bit w k
    by d e f zero h g = absurd (omega arith)
    by zero e f (suc k) h g = let q : (w - 1) / 2 ≡ w / 2 - 1 = omega arith in bit_suc (w - 1) k ∙ rw q (f k (omega arith) (omega arith)) ∙ sym (bit_suc w k)
    by (suc d) e f (suc k) h g = let q : (w - 1) / 2 ≡ w / 2 = omega arith in bit_suc (w - 1) k ∙ ap (λ (x : ℕ). bit x k) q ∙ sym (bit_suc w k)

-- and not that one
before_there : (n w : ℕ) → count_trailing_zeros n w < n → bit (w - 1) (count_trailing_zeros n w) ≡ false
unfolding count_trailing_zeros
before_there zero w h = absurd (omega arith)
before_there (suc n) w h = by (w % 2) refl (before_there n (w / 2)) h
  where
    by : (d : ℕ) → d ≡ w % 2 → (count_trailing_zeros n (w / 2) < n → bit (w / 2 - 1) (count_trailing_zeros n (w / 2)) ≡ false) → under d (count_trailing_zeros n (w / 2)) < suc n → bit (w - 1) (under d (count_trailing_zeros n (w / 2))) ≡ false
    by zero e f h = let q : (w - 1) / 2 ≡ w / 2 - 1 = omega arith in bit_suc (w - 1) (count_trailing_zeros n (w / 2)) ∙ rw q (f (omega arith))
    by (suc zero) e f h = even (w - 1) (omega arith)
    by (suc (suc d)) e f h = absurd (omega arith)

-- ---- what is left without the lowest bit

both_same : (b : Bool) → cond b b false ≡ b
both_same true = refl
both_same false = refl

abbrev pub lowest : ℕ → ℕ
lowest w = count_trailing_zeros 64 w

abbrev pub rest : ℕ → ℕ
rest w = bit_and w (w - 1)

module _ (w : ℕ) (h : lowest w < 64) where
  above_stays : (k : ℕ) → lowest w < k → bit (rest w) k ≡ bit w k
  above_stays k g = bits_both w (w - 1) k ∙ rw (before_above 64 w k h g) (both_same (bit w k))

  up_to_it : (k : ℕ) → k ≤ lowest w → bit (rest w) k ≡ false
  up_to_it k g = bits_both w (w - 1) k ∙ by (dec_lt k (lowest w))
    where
      by : Dec (k < lowest w) → cond (bit w k) (bit (w - 1) k) false ≡ false
      by (yes l) = rw (below 64 w k l)
      by (no f) = let e : k ≡ lowest w = omega arith in rw (e, before_there 64 w h) (cond_false (bit w (lowest w)))

  -- its lowest bit is further up
  higher : lowest w < lowest (rest w)
  higher = by (dec_lt (lowest w) (lowest (rest w)))
    where
      by : Dec (lowest w < lowest (rest w)) → lowest w < lowest (rest w)
      by (yes l) = l
      by (no f) = never (sym (there 64 (rest w) (omega (arith, h))) ∙ up_to_it (lowest (rest w)) (omega arith))

-- it is less
pub rest_less : (w : ℕ) → (w ≡ 0 → ⊥) → rest w < w
rest_less w f = omega (arith, and_le_r w (w - 1), f)

-- ---- a word that is read bit by bit

-- w is what is left of a whole word: from its lowest bit on they are the same
pub record Left (whole w : ℕ) : Type 0 where
  pub fits : w < 2 ^ 64
  pub same : (k : ℕ) → lowest w ≤ k → k < 64 → bit w k ≡ bit whole k

pub left_whole : (whole : ℕ) → whole < 2 ^ 64 → Left whole whole
left_whole whole h = record { fits = h; same = λ k g l. refl }

-- where nothing is left, whatever the whole word was
pub left_nothing : (whole : ℕ) → Left whole 0
left_nothing whole = record { fits = pow_pos 64; same = λ k g h. absurd (omega (arith, trailing_of_zero 64)) }

-- below the first bit none is set
pub none_before : (whole k : ℕ) → k < lowest whole → bit whole k ≡ false
none_before = below 64

-- nothing is left: all 64 were read
pub all_read : (w : ℕ) → w ≡ 0 → lowest w ≡ 64
all_read w e = ap lowest e ∙ trailing_of_zero 64

module _ {whole w : ℕ} (l : Left whole w) (f : w ≡ 0 → ⊥) where
  -- a turn: the lowest bit is one of the whole word's
  in_word : lowest w < 64
  in_word = some 64 w l.fits f

  pub is_set : bit whole (lowest w) ≡ true
  is_set = sym (l.same (lowest w) (omega arith) in_word) ∙ there 64 w in_word

  -- what is left after it
  pub left_on : Left whole (rest w)
  left_on = record {
    fits = lt_of_le_of_lt (and_le_l w (w - 1)) l.fits;
    same = λ k g h. above_stays w in_word k (omega (arith, higher w in_word)) ∙ l.same k (omega (arith, higher w in_word)) h;
  }

  pub moves_up : lowest w < lowest (rest w)
  moves_up = higher w in_word

  -- and between the two none is set
  pub none_between : (k : ℕ) → lowest w < k → k < lowest (rest w) → bit whole k ≡ false
  none_between k g h =
      let b : k < 64 = omega (arith, trailing_le 64 (rest w)) in
      sym (l.same k (omega arith) b) ∙ sym (above_stays w in_word k g) ∙ below 64 (rest w) k h
