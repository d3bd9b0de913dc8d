-- How long numbers and texts with numbers in them are at most.
use mathlib.Core.Path.{◌≡◌, refl, ◌∙◌}
use mathlib.Core.Bool.{Bool, true, false, cond}
use mathlib.Core.List.{List, [], ◌∷◌, ◌++◌}
use Prim.Native.Nat.{ℕ, suc, ◌+◌, ◌-◌, ◌*◌, ◌/◌, ◌%◌, ◌≤◌, ◌<◌}
use native.Mathlib.Omega.{arith}
use lib.Dec.{eqb, ltb}
use lib.ListN.{length, drop, get_or, length-append}
use borrow.Author.Tests.{ltb-true, ltb-false, eqb-true, eqb-false}
use Rattle.lines.specs.Texts.{decimal, width}
use Rattle.lines.proofs.Rooms.{few_digits}
use Rattle.phrases.specs.Phrases.{comma, with_comma, commas, grouped, percent, filled}

-- digits in groups: a comma for every three digits behind the first
in_groups : (digits : List ℕ) → length (commas digits) ≡ length digits + (length digits - 1) / 3
unfolding commas
in_groups [] = refl
in_groups (d ∷ digits) =
    length-append (with_comma d (length digits)) (commas digits)
    ∙ by (length digits) (length (commas digits)) (in_groups digits) (ltb 0 (length digits)) (eqb (length digits % 3) 0) refl refl
  where
    by : (m n : ℕ) → n ≡ m + (m - 1) / 3 → (s t : Bool) → ltb 0 m ≡ s → eqb (m % 3) 0 ≡ t
        → length (cond (cond s t false) (d ∷ comma ∷ []) (d ∷ [])) + n ≡ suc m + (suc m - 1) / 3
    by m n e true true p q = omega (arith, ltb-true 0 m p, eqb-true (m % 3) 0 q)
    by m n e true false p q = let h : m % 3 ≡ 0 → ⊥ = eqb-false (m % 3) 0 q in omega (arith, ltb-true 0 m p)
    by m n e false t p q = omega (arith, ltb-false 0 m p)

-- a number below 100,000 takes at most six bytes
pub six_bytes : (n : ℕ) → n < 100000 → length (grouped n) ≤ 6
unfolding grouped
six_bytes n h = omega (arith, in_groups (decimal n), few_digits 4 n h)

one_byte : length (grouped 0) ≡ 1
unfolding grouped commas decimal width
one_byte = refl

-- a text with such numbers takes five bytes more for each of them
abbrev pub Small : List ℕ → Type 0
Small [] = Unit {0}
Small (n ∷ numbers) = (n < 100000) × Small numbers

pub short : (text numbers : List ℕ) → Small numbers → length (filled text numbers) ≤ length text + 5 * length numbers
unfolding filled
short [] numbers h = omega arith
short (b ∷ text) numbers h = by (λ ns g. short text ns g) (eqb b percent) numbers h
  where
    by : ((ns : List ℕ) → Small ns → length (filled text ns) ≤ length text + 5 * length ns)
        → (t : Bool) (ns : List ℕ) → Small ns → length (cond t (grouped (get_or ns 0 0)) (b ∷ []) ++ filled text (cond t (drop 1 ns) ns)) ≤ suc (length text) + 5 * length ns
    by f true [] g = omega (arith, length-append (grouped 0) (filled text []), one_byte, f [] g)
    by f true (n ∷ ns) g = omega (arith, length-append (grouped n) (filled text ns), six_bytes n g.0, f ns g.1)
    by f false ns g = omega (arith, f ns g)
