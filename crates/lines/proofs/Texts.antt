-- Bytes written one after the other, and the decimal digits of a number.
use mathlib.Core.Path.{◌≡◌, refl, sym, ap, subst, ◌∙◌}
use mathlib.Core.Bool.{Bool, true, false}
use mathlib.Core.List.{List, [], ◌∷◌, ◌++◌}
use Prim.Native.Nat.{ℕ, zero, suc, ◌+◌, ◌-◌, ◌/◌, ◌^◌, ◌≤◌, ◌<◌}
use native.Mathlib.Nat.{pow-suc, one-le-pow, pow-le-pow_right}
use native.Mathlib.Omega.{arith}
use lib.ListN.{length, take, set}
use lib.Seq.{set_out}
use lib.Dec.{ltb}
use borrow.Author.Tests.{lt-ltb, le-ltb, ltb-true, ltb-false}
use Rattle.io.specs.Digits.{last_digits, IsDigitCount}
use Rattle.lines.specs.Texts.{Text, put, puts, width, decimal}

-- one text after the other
pub puts_append : (t : Text) (a b : List ℕ) → puts t (a ++ b) ≡ puts (puts t a) b
unfolding puts
puts_append t [] b = refl
puts_append t (x ∷ a) b = puts_append (put t x) a b

-- a byte behind the text, in a buffer that has room and in a full one
module _ (bytes : List ℕ) (at byte : ℕ) where
  pub fits : at < length bytes → record { bytes = set bytes at byte; end = at + 1 } ≡ puts (record { bytes = bytes; end = at }) (byte ∷ [])
  unfolding puts
  fits h = rw (lt-ltb _ _ h)

  pub full : length bytes ≤ at → record { bytes = bytes; end = at } ≡ puts (record { bytes = bytes; end = at }) (byte ∷ [])
  unfolding puts
  full h = rw (le-ltb _ _ h, set_out bytes at byte h)

-- the fewest digits that hold a number are as many as `width` counts
tens : (k n : ℕ) → n < 10 ^ suc k → n / 10 < 10 ^ k
tens k n h = omega (arith, pow-suc 10 k)

tens_least : (k n : ℕ) → 10 ^ suc k ≤ n → 10 ^ k ≤ n / 10
tens_least k n h = omega (arith, pow-suc 10 k)

ten : (k n : ℕ) → 10 ^ suc k ≤ n → 10 ≤ n
ten k n h = omega (arith, pow-suc 10 k, one-le-pow k 10 (omega arith))

least : (k n : ℕ) → IsDigitCount 10 1 n (suc (suc k)) → 10 ^ suc k ≤ n
least k n f = subst (λ (j : ℕ). 10 ^ j ≤ n) (let z : suc (suc k) - 1 ≡ suc k = omega arith in z) (f.2 (omega arith))

shorter : (k n : ℕ) → IsDigitCount 10 1 n (suc (suc k)) → IsDigitCount 10 1 (n / 10) (suc k)
shorter k n f =
    (omega arith, tens (suc k) n f.1, λ l. subst (λ (j : ℕ). 10 ^ j ≤ n / 10) (let z : k ≡ suc k - 1 = omega arith in z) (tens_least k n (least k n f)))

pub widths : (limit k n : ℕ) → k ≤ suc limit → IsDigitCount 10 1 n k → width limit n ≡ k
unfolding width
widths limit zero n h f = absurd (omega (arith, f.0))
widths zero (suc zero) n h f = refl
widths zero (suc (suc k)) n h f = absurd (omega arith)
widths (suc limit) (suc zero) n h f = rw (lt-ltb n 10 f.1)
widths (suc limit) (suc (suc k)) n h f =
    rw (le-ltb n 10 (ten k n (least k n f))) (ap suc (widths limit (suc k) (n / 10) (omega arith) (shorter k n f)))

-- a 64-bit number has at most 20
at_most : (n k : ℕ) → n < 2 ^ 64 → IsDigitCount 10 1 n k → k ≤ 20
at_most n k h f = go (ltb 20 k) refl
  where
    go : (t : Bool) → ltb 20 k ≡ t → k ≤ 20
    go true e =
        let big : 20 < k = ltb-true 20 k e in
        let reach : 20 ≤ k - 1 = omega arith in
        let many : 10 ^ 20 ≤ 10 ^ (k - 1) = pow-le-pow_right {n = 10} (omega arith) reach in
        let low : 10 ^ (k - 1) ≤ n = f.2 (omega arith) in
        absurd (omega arith)
    go false e = ltb-false 20 k e

pub spelled : (n k : ℕ) (text : List ℕ) → n < 2 ^ 64 → IsDigitCount 10 1 n k → take k text ≡ last_digits 10 k n → take k text ≡ decimal n
unfolding decimal
spelled n k text h f e = e ∙ ap (λ (j : ℕ). last_digits 10 j n) (sym (widths 19 k n (at_most n k h f) f))
