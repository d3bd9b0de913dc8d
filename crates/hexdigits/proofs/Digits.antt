-- Which characters are digits, their values, and lines of them.
use mathlib.Core.Path.{◌≡◌, refl, sym, ◌∙◌}
use mathlib.Core.Bool.{Bool, true, false, ◌&&◌, and_assoc, and-true}
use mathlib.Core.List.{List, [], ◌∷◌}
use Prim.Native.Nat.{ℕ, zero, suc, ◌+◌, ◌*◌, ◌-◌, ◌/◌, ◌%◌, ◌≤◌, ◌<◌}
use native.Mathlib.Numerals.{add-one}
use native.Mathlib.Omega.{arith}
use lib.ListN.{length, drop, get_or, drop_of_length-le}
use lib.Seq.{drop-cons}
use mathlib.Core.Logic.{◌⊎◌, inl, inr, ⊎_elim}
use lib.Dec.{ltb}
use borrow.Author.Tests.{ltb-true, ltb-false, le-leb, lt-leb}
use Rattle.hexdigits.specs.Hex.{is_digit, digit, all_digits}

pub lt_or_ge : (a b : ℕ) → (a < b) ⊎ (b ≤ a)
lt_or_ge a b = go (ltb a b) refl
  where
    go : (t : Bool) → ltb a b ≡ t → (a < b) ⊎ (b ≤ a)
    go true e = inl (ltb-true a b e)
    go false e = inr (ltb-false a b e)

pub both : (a b : Bool) → (a && b) ≡ true → (a ≡ true) × (b ≡ true)
both true b e = (refl, e)
both false b e = (cc, cc)

-- the five stretches of characters
pub below_digits : (c : ℕ) → c < 48 → (is_digit c ≡ false) × (digit c ≡ 0)
unfolding is_digit digit
below_digits c h = let g : c < 97 = omega arith in (simp (lt-leb 48 c h, lt-leb 97 c g), simp (lt-leb 48 c h, lt-leb 97 c g))

pub decimals : (c : ℕ) → 48 ≤ c → c < 58 → (is_digit c ≡ true) × (digit c ≡ c - 48)
unfolding is_digit digit
decimals c h g = let k : c ≤ 57 = omega arith in (simp (le-leb 48 c h, le-leb c 57 k), simp (le-leb 48 c h, le-leb c 57 k))

pub between_digits : (c : ℕ) → 58 ≤ c → c < 97 → (is_digit c ≡ false) × (digit c ≡ 0)
unfolding is_digit digit
between_digits c h g =
    let a : 48 ≤ c = omega arith in
    (simp (le-leb 48 c a, lt-leb c 57 h, lt-leb 97 c g), simp (le-leb 48 c a, lt-leb c 57 h, lt-leb 97 c g))

pub letters : (c : ℕ) → 97 ≤ c → c < 103 → (is_digit c ≡ true) × (digit c ≡ c - 87)
unfolding is_digit digit
letters c h g =
    let a : 48 ≤ c = omega arith in
    let b : 57 < c = omega arith in
    let k : c ≤ 102 = omega arith in
    (simp (le-leb 48 c a, lt-leb c 57 b, le-leb 97 c h, le-leb c 102 k), simp (le-leb 48 c a, lt-leb c 57 b, le-leb 97 c h, le-leb c 102 k))

pub above_digits : (c : ℕ) → 103 ≤ c → (is_digit c ≡ false) × (digit c ≡ 0)
unfolding is_digit digit
above_digits c h =
    let a : 48 ≤ c = omega arith in
    let b : 57 < c = omega arith in
    let k : 97 ≤ c = omega arith in
    (simp (le-leb 48 c a, lt-leb c 57 b, le-leb 97 c k, lt-leb c 102 h), simp (le-leb 48 c a, lt-leb c 57 b, le-leb 97 c k, lt-leb c 102 h))

-- what a character is: none of the digits, 0 to 9, or a to f
pub data Sort (c : ℕ) : Type 0 where
  other : is_digit c ≡ false → digit c ≡ 0 → Sort c
  decimal : 48 ≤ c → c < 58 → is_digit c ≡ true → digit c ≡ c - 48 → Sort c
  letter : 97 ≤ c → c < 103 → is_digit c ≡ true → digit c ≡ c - 87 → Sort c

pub sort : (c : ℕ) → Sort c
sort c =
    ⊎_elim (λ (h : c < 48). let f = below_digits c h in other f.0 f.1)
    (λ (h : 48 ≤ c).
    ⊎_elim (λ (g : c < 58). let f = decimals c h g in decimal h g f.0 f.1)
    (λ (g : 58 ≤ c).
    ⊎_elim (λ (k : c < 97). let f = between_digits c g k in other f.0 f.1)
    (λ (k : 97 ≤ c).
    ⊎_elim (λ (m : c < 103). let f = letters c k m in letter k m f.0 f.1) (λ (m : 103 ≤ c). let f = above_digits c m in other f.0 f.1) (lt_or_ge c 103))
    (lt_or_ge c 97))
    (lt_or_ge c 58))
    (lt_or_ge c 48)

pub digit_lt : (c : ℕ) → digit c < 16
digit_lt c = go (sort c)
  where
    go : Sort c → digit c < 16
    go (other t d) = omega arith
    go (decimal h g t d) = omega arith
    go (letter h g t d) = omega arith

-- f, the last of them, is 102
pub digit_small : (c : ℕ) → is_digit c ≡ true → c < 103
digit_small c e = go (sort c)
  where
    go : Sort c → c < 103
    go (other t d) = let z : ◌≡◌ {A = ℕ} 0 1 = cc in omega arith
    go (decimal h g t d) = omega arith
    go (letter h g t d) = omega arith

-- a digit's value by one sum, and 0 for the rest
pub by_sum : (c : ℕ) → is_digit c ≡ true → c % 16 + c / 64 * 9 ≡ digit c
by_sum c e = go (sort c)
  where
    go : Sort c → c % 16 + c / 64 * 9 ≡ digit c
    go (other t d) = cc
    go (decimal h g t d) = omega arith
    go (letter h g t d) = omega arith

pub no_digit : (c : ℕ) → is_digit c ≡ false → 0 ≡ digit c
no_digit c e = go (sort c)
  where
    go : Sort c → 0 ≡ digit c
    go (other t d) = sym d
    go (decimal h g t d) = cc
    go (letter h g t d) = cc

low_bit : (q k : ℕ) → q < 2 → (q + 4 * k) % 2 ≡ q
low_bit q k h = omega arith

-- two digits in one number, the first lowest: their byte by one sum
pub two_by_sum : (p : ℕ) → is_digit (p % 256) ≡ true → is_digit (p / 256) ≡ true → (p % 16 + p / 64 % 2 * 9) * 16 + p / 256 % 16 + p / 16384 * 9 ≡ digit (p % 256) * 16 + digit (p / 256)
two_by_sum p d e =
    let g = digit_small (p % 256) d in
    let a : p % 16 ≡ p % 256 % 16 = omega arith in
    let k : p / 64 ≡ p % 256 / 64 + 4 * (p / 256) = omega arith in
    let b : p / 64 % 2 ≡ p % 256 / 64 = rw k (low_bit (p % 256 / 64) (p / 256) (omega arith)) in
    let f : p / 16384 ≡ p / 256 / 64 = omega arith in
    rw (a, b, f, ← by_sum (p % 256) d, ← by_sum (p / 256) e) (omega arith)

-- one more character looked at
pub one_more : (l : List ℕ) (i : ℕ) (good t : Bool) → i < length l → t ≡ is_digit (get_or l i 0) → all_digits l ≡ (good && all_digits (drop i l)) → all_digits l ≡ ((good && t) && all_digits (drop (i + 1) l))
unfolding all_digits
one_more l i good t h d e = e ∙ rw (add-one i, drop-cons l i 0 h, d) (sym (and_assoc good _ _))

pub looked_at_all : (l : List ℕ) (i : ℕ) (good : Bool) → length l ≤ i → all_digits l ≡ (good && all_digits (drop i l)) → good ≡ all_digits l
unfolding all_digits
looked_at_all l i good h e = sym (e ∙ rw (drop_of_length-le l h) (and-true good))

-- each character of a line of digits
pub digit_in : (l : List ℕ) → all_digits l ≡ true → (k : ℕ) → k < length l → is_digit (get_or l k 0) ≡ true
unfolding all_digits
digit_in [] e k h = let z : ◌≡◌ {A = ℕ} 0 1 = omega arith in cc
digit_in (c ∷ l) e zero h = (both (is_digit c) (all_digits l) e).0
digit_in (c ∷ l) e (suc k) h = digit_in l (both (is_digit c) (all_digits l) e).1 k (omega arith)
