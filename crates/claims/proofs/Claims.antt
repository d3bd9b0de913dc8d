-- An empty bitmap, byte by byte and slot by slot.
use mathlib.Core.Path.{◌≡◌, refl, sym, ap, ◌∙◌}
use mathlib.Core.Bool.{Bool, true, false, cond, ◌&&◌}
use mir.Syntax.{w8}
use mir.Val.{Fits}
use Rattle.std.specs.List.{list_all}
use mathlib.Core.List.{List, [], ◌∷◌}
use Prim.Native.Nat.{ℕ, zero, suc, ◌+◌, ◌-◌, ◌*◌, ◌/◌, ◌%◌, ◌^◌, ◌<◌}
use native.Mathlib.Nat.{mod-one, le_of_suc-le-suc}
use native.Mathlib.Numerals.{add-one}
use native.Mathlib.Omega.{arith}
use native.Mathlib.Decide.{dec_lt, ℕ_discrete}
use lib.Dec.{eqb}
use lib.ListN.{get_or}
use lib.Pow.{mod-pow-add}
use borrow.Author.Tests.{eq-eqb, ne_eqb, eqb-true, eqb-false}
use Rattle.tables.specs.Sets.{bit, claimed}
use Rattle.tables.proofs.Checks.{never}
use Rattle.tables.proofs.Groups.{first_group, later_group, bit_suc}
use Rattle.tables.proofs.Sets.{bit_zero}
use Rattle.claims.specs.Claims.{empty, EmptyExactly}

-- ---- all of its bytes are 0

pub all_zero : (bitmap : List ℕ) → ((k : ℕ) → Fits w8 (get_or bitmap k 0)) → list_all (λ b. eqb b 0) bitmap ≡ empty bitmap
all_zero [] f = refl
all_zero (b ∷ bs) f =
    let l : b < 256 = (f 0).fits in
    let e : b ≡ b % 256 = omega arith in
    ap (λ (x : ℕ). eqb x 0 && list_all (λ b. eqb b 0) bs) e ∙ by (eqb (b % 256) 0) (all_zero bs (λ k. f (suc k)))
  where
    by : (t : Bool) → list_all (λ b. eqb b 0) bs ≡ empty bs → (t && list_all (λ b. eqb b 0) bs) ≡ cond t (empty bs) false
    by true h = h
    by false h = refl

-- ---- the lowest bits of a number, the lowest of them apart

low_apart : (b n : ℕ) → b % 2 ^ suc n ≡ b / 2 % 2 ^ n * 2 + b % 2
low_apart b n = rw (← add-one n) (mod-pow-add b n 1)

no_bit : (n b k : ℕ) → k < n → b % 2 ^ n ≡ 0 → bit b k ≡ false
no_bit zero b k h e = absurd (omega arith)
no_bit (suc n) b zero h e = ne_eqb (b / 1 % 2) 1 (λ q. omega (arith, low_apart b n, e))
no_bit (suc n) b (suc k) h e = bit_suc b k ∙ no_bit n (b / 2) k (le_of_suc-le-suc h) (omega (arith, low_apart b n, e))

-- one of the lowest bits is set
abbrev Some : ℕ → ℕ → Type 0
Some n b = (k : ℕ) × ((k < n) × (bit b k ≡ true))

above : (b n : ℕ) → Some n (b / 2) → Some (suc n) b
above b n r = (suc r.0, (omega (arith, r.1.0), bit_suc b r.0 ∙ r.1.1))

some_bit : (n b : ℕ) → (b % 2 ^ n ≡ 0 → ⊥) → Some n b
some_bit zero b d = absurd (d (mod-one b))
some_bit (suc n) b d = go (ℕ_discrete (b / 1 % 2) 1) (some_bit n (b / 2))
  where
    go : Dec (b / 1 % 2 ≡ 1) → ((b / 2 % 2 ^ n ≡ 0 → ⊥) → Some n (b / 2)) → Some (suc n) b
    go (yes h) f = (0, (omega arith, eq-eqb (b / 1 % 2) 1 h))
    go (no h) f = above b n (f (λ e. d (omega (arith, low_apart b n, e, h))))

-- ---- a slot of the first byte, and of a later one

claimed_low : (b : ℕ) (bs : List ℕ) (s : ℕ) → s < 8 → claimed (b ∷ bs) s ≡ bit b s
claimed_low = first_group 8

claimed_high : (b : ℕ) (bs : List ℕ) (s : ℕ) → claimed (b ∷ bs) (8 + s) ≡ claimed bs s
claimed_high = later_group 8 (omega arith)

-- ---- an empty bitmap claims no slot, and any other one claims some slot

none : (bitmap : List ℕ) → empty bitmap ≡ true → (slot : ℕ) → claimed bitmap slot ≡ false
none [] e slot = bit_zero (slot % 8)
none (b ∷ bs) e slot = by (eqb (b % 256) 0) refl e (dec_lt slot 8) (none bs)
  where
    by : (t : Bool) → eqb (b % 256) 0 ≡ t → cond t (empty bs) false ≡ true → Dec (slot < 8) → (empty bs ≡ true → (s : ℕ) → claimed bs s ≡ false) → claimed (b ∷ bs) slot ≡ false
    by true z e (yes h) f = claimed_low b bs slot h ∙ no_bit 8 b slot h (eqb-true (b % 256) 0 z)
    by true z e (no h) f =
        let d : slot ≡ 8 + (slot - 8) = omega arith in
        ap (claimed (b ∷ bs)) d ∙ claimed_high b bs (slot - 8) ∙ f e (slot - 8)
    by false z e w f = never (sym e)

some : (bitmap : List ℕ) → empty bitmap ≡ false → (slot : ℕ) × (claimed bitmap slot ≡ true)
some [] e = never e
some (b ∷ bs) e = by (eqb (b % 256) 0) refl e (some bs)
  where
    by : (t : Bool) → eqb (b % 256) 0 ≡ t → cond t (empty bs) false ≡ false → (empty bs ≡ false → (s : ℕ) × (claimed bs s ≡ true)) → (slot : ℕ) × (claimed (b ∷ bs) slot ≡ true)
    by true z e f = let r = f e in (8 + r.0, claimed_high b bs r.0 ∙ r.1)
    by false z e f = let r = some_bit 8 b (eqb-false (b % 256) 0 z) in (r.0, claimed_low b bs r.0 r.1.0 ∙ r.1.1)

pub empty_exactly : (bitmap : List ℕ) → EmptyExactly bitmap
empty_exactly bitmap = record { none = none bitmap; some = some bitmap }
