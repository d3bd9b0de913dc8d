-- A bitmap's bits are read least first, and past its end nothing is claimed.
use mathlib.Core.Path.{◌≡◌, refl, sym, ◌∙◌}
use mathlib.Core.Bool.{false, ◌||◌, or-false}
use mathlib.Core.List.{List, [], ◌∷◌}
use Prim.Native.Nat.{ℕ, zero, suc, ◌/◌, ◌%◌, ◌≤◌}
use native.Mathlib.Decide.{ℕ_discrete}
use native.Mathlib.Omega.{arith}
use lib.Dec.{eqb}
use lib.ListN.{length, get_or, get_or-eq_default}
use borrow.Author.Tests.{eq-eqb, ne_eqb}
use Rattle.tables.specs.Sets.{bit, claimed, LeastFirst}
use Rattle.tables.proofs.Sets.{bit_zero, bit_power}

pub least_first : (s : ℕ) → LeastFirst s
least_first s = by (s / 8) refl
  where
    -- a slot of the second byte
    last : s / 8 ≡ 1 → Dec (s % 8 ≡ 7) → eqb (s % 8) 7 ≡ eqb s 15
    last e (yes h) = eq-eqb _ _ h ∙ sym (eq-eqb s 15 (omega arith))
    last e (no h) = ne_eqb _ _ h ∙ sym (ne_eqb s 15 (λ q. h (omega arith)))

    by : (i : ℕ) → s / 8 ≡ i → bit (get_or (0x01 ∷ 0x80 ∷ []) i 0) (s % 8) ≡ (eqb s 0 || eqb s 15)
    by zero e =
        let m : s % 8 ≡ s = omega arith in
        rw (m, ne_eqb s 15 (λ q. omega arith), or-false) (bit_power 0 s)
    by (suc zero) e = rw (ne_eqb s 0 (λ q. omega arith)) (bit_power 7 (s % 8) ∙ last e (ℕ_discrete (s % 8) 7))
    by (suc (suc i)) e = rw (ne_eqb s 0 (λ q. omega arith), ne_eqb s 15 (λ q. omega arith)) (bit_zero (s % 8))

pub past_the_end : (bitmap : List ℕ) (s : ℕ) → length bitmap ≤ s / 8 → claimed bitmap s ≡ false
past_the_end bitmap s h = rw (get_or-eq_default bitmap 0 h) (bit_zero (s % 8))
