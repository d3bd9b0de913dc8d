-- What a vote request's bitmap claims: document 02, [10], and document 01, "Vote request", 17.
use Rattle.std.specs.Prelude.{ℕ, ◌%◌, ◌≡◌, Bool, true, false, cond, List, [], ◌∷◌, eqb, ltb}
use Rattle.tables.specs.Checks.{all_of}
use Rattle.tables.specs.Sets.{claimed}

-- 18: no byte has one of its eight bits set; who owns the slots is not asked
abbrev pub empty : List ℕ → Bool
empty [] = true
empty (b ∷ bs) = cond (eqb (b % 256) 0) (empty bs) false

-- an empty bitmap claims no slot, and any other one claims some slot
pub record EmptyExactly (bitmap : List ℕ) : Type 0 where
  pub none : empty bitmap ≡ true → (slot : ℕ) → claimed bitmap slot ≡ false
  pub some : empty bitmap ≡ false → (slot : ℕ) × (claimed bitmap slot ≡ true)

-- 17: a slot is claimed whose owner is in the roster, of so many nodes, with a known configEpoch above the request's
abbrev pub newer_owner : ℕ → (ℕ → ℕ) → List ℕ → ℕ → ℕ → ℕ → Bool
newer_owner size known bitmap config slot owner = all_of (claimed bitmap slot ∷ ltb owner size ∷ ltb config (known owner) ∷ [])
