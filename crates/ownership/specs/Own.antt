-- Slots that no claim of their owner changes: what the reading of a claim passes over at once. No promise speaks of it.
use Rattle.std.specs.Prelude.{ℕ, ◌+◌, Bool, List, [], ◌∷◌, eqb, ltb, leb, length, get_or}
use Rattle.tables.specs.Below.{every}
use Rattle.tables.specs.Checks.{all_of}

-- the 64 slots from a place on are all a node's
abbrev pub owned_by : ℕ → List ℕ → ℕ → Bool
owned_by node slots from = every 64 (λ k. eqb (get_or slots (from + k) 0) node)

-- the sender is in the roster, the table has 64 slots from there on, and they are all his
abbrev pub all_own : ℕ → ℕ → List ℕ → ℕ → Bool
all_own size sender slots from = all_of (ltb sender size ∷ leb (from + 64) (length slots) ∷ owned_by sender slots from ∷ [])
