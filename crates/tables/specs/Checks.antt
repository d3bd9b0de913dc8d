-- Checks: in order, where the first that applies is the answer, and all together.
use Rattle.std.specs.Prelude.{Bool, true, false, cond, List, [], ◌∷◌}

-- rows of a test and an answer: the first test that holds gives its answer, by way of `refuse`; else what comes after them
abbrev pub checked : {A B : Type 0} → (B → A) → List (Bool × B) → A → A
checked refuse [] rest = rest
checked refuse (row ∷ rows) rest = cond row.0 (refuse row.1) (checked refuse rows rest)

-- all of a list of conditions hold
abbrev pub all_of : List Bool → Bool
all_of [] = true
all_of (b ∷ []) = b
all_of (b ∷ c ∷ bs) = cond b (all_of (c ∷ bs)) false

-- one of a list of conditions holds
abbrev pub any_of : List Bool → Bool
any_of [] = false
any_of (b ∷ []) = b
any_of (b ∷ c ∷ bs) = cond b true (any_of (c ∷ bs))
