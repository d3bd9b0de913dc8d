-- What the code finds on its way: stretches of entries that are all alike, and where a range ends. No promise of a call needs it.
use Rattle.std.specs.Prelude.{ℕ, suc, Bool, not, cond, List, [], ◌∷◌, eqb, ltb}
use Rattle.tables.specs.Checks.{all_of}

-- how many entries are that number, before the first that is another
unfoldable pub alike : ℕ → List ℕ → ℕ
alike owner [] = 0
alike owner (x ∷ xs) = cond (eqb x owner) (suc (alike owner xs)) 0

-- an owned slot ends a range where the next entry is another
abbrev pub is_end : ℕ → ℕ → ℕ → Bool
is_end size owner next = all_of (ltb owner size ∷ not (eqb owner next) ∷ [])

-- one or none
abbrev pub one : Bool → ℕ
one b = cond b 1 0
