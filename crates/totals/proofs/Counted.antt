-- Entries counted by place are those that pass, counted.
use mathlib.Core.Path.{◌≡◌, refl}
use mathlib.Core.Bool.{Bool, true, false, cond}
use mathlib.Core.List.{List, [], ◌∷◌}
use Prim.Native.Nat.{ℕ, suc, ◌+◌}
use native.Mathlib.Omega.{arith}
use Rattle.std.specs.List.{count_by}
use Rattle.std.proofs.lemmas.List.Sums.{sum_by-cons}
use Rattle.tables.specs.Lists.{count_from}

pub counted : (p : ℕ → Bool) (i : ℕ) (xs : List ℕ) → count_from (λ (s x : ℕ). p x) i xs ≡ count_by p xs
unfolding count_from
counted p i [] = refl
counted p i (x ∷ xs) = rw (counted p (suc i) xs, sum_by-cons (λ (y : ℕ). cond (p y) 1 0) x xs) (by (p x))
  where
    by : (t : Bool) → cond t (suc (count_by p xs)) (count_by p xs) ≡ cond t 1 0 + count_by p xs
    by true = omega arith
    by false = omega arith
