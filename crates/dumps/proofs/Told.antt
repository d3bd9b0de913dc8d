-- What the definitions come to: nothing is lost by taking a text for one, and examples.
use mathlib.Core.Path.{◌≡◌, refl, sym, ◌∙◌}
use mathlib.Core.Bool.{true, false}
use mathlib.Core.List.{List, [], ◌∷◌}
use Prim.Native.Nat.{ℕ, zero, suc, ◌+◌, ◌*◌, ◌≤◌, ◌<◌}
use native.Mathlib.Decide.{dec_lt}
use native.Mathlib.Nat.{not-suc-le-zero}
use native.Mathlib.Omega.{arith}
use lib.ListN.{length, get_or}
use borrow.Author.Tests.{ne_eqb, lt-leb, not-false}
use Rattle.tables.proofs.Checks.{never}
use Rattle.tables.proofs.Walks.{none_passes}
use Rattle.hexdigits.specs.Hex.{is_digit, digit}
use Rattle.dumps.specs.Dumps.{pairs, digits, fours, is_space, small, is_text, NothingLost, Examples}
use Rattle.dumps.proofs.Memory.{pair_at}

-- each entry by its two bytes
pairs_at : (input : List ℕ) (s : ℕ) → s < length (pairs input) → (2 * s + 1 < length input) × (get_or (pairs input) s 0 ≡ pair_at input (2 * s))
unfolding pairs
pairs_at [] s h = absurd (not-suc-le-zero h)
pairs_at (low ∷ []) s h = absurd (not-suc-le-zero h)
pairs_at (low ∷ high ∷ rest) zero h = (omega arith, refl)
pairs_at (low ∷ high ∷ rest) (suc s) h =
    let ih = pairs_at rest s (omega arith) in
    let e : 2 * suc s ≡ suc (suc (2 * s)) = omega arith in
    let f : suc (suc (2 * s)) + 1 ≡ suc (suc (2 * s + 1)) = omega arith in
    (omega (arith, ih.0), rw (e, f) ih.1)

-- no character of a text is below 9
text_from : (c : ℕ) → is_text c ≡ true → 9 ≤ c
unfolding is_space small is_digit
text_from c e = by (dec_lt c 9)
  where
    none : c < 9 → is_text c ≡ false
    none h =
        let b : c < 65 = omega arith in
        let d : c < 48 = omega arith in
        let f : c < 97 = omega arith in
        rw (ne_eqb c 0x20 (λ q. omega arith), lt-leb 0x09 c h, lt-leb 0x41 c b, lt-leb 48 c d, lt-leb 97 c f)

    by : Dec (c < 9) → 9 ≤ c
    by (yes h) = never (sym e ∙ none h)
    by (no h) = omega arith

pub nothing_lost : (input : List ℕ) → NothingLost input
nothing_lost input none s h =
    let at = pairs_at input s h in
    let high : 9 ≤ get_or input (2 * s + 1) 0 = text_from _ (not-false _ (none_passes _ 0 input none (2 * s + 1) at.0)) in
    omega (arith, at.1)

pub examples : Examples
unfolding pairs digits fours is_space small digit
examples = (refl, refl)
