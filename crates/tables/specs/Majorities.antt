-- Majorities of a set of numbers, by its members: a set is a test here, and its members are the numbers that pass.
use Rattle.std.specs.Prelude.{ℕ, ◌*◌, ◌<◌, ◌≡◌, Bool, true}
use Rattle.tables.specs.Below.{count}

-- every member of the part is one of the whole
abbrev pub Within : (ℕ → Bool) → (ℕ → Bool) → Type 0
Within part whole = (k : ℕ) → part k ≡ true → whole k ≡ true

-- more than half of the members of the whole, of those below n, are in the part
abbrev pub Majority : ℕ → (ℕ → Bool) → (ℕ → Bool) → Type 0
Majority n part whole = count whole n < 2 * count part n

-- the two have a member in common
abbrev pub Meet : (ℕ → Bool) → (ℕ → Bool) → Type 0
Meet a b = (k : ℕ) × (a k ≡ true) × (b k ≡ true)

-- two majorities of one set have a member in common
abbrev pub MajoritiesMeet : ℕ → (ℕ → Bool) → (ℕ → Bool) → (ℕ → Bool) → Type 0
MajoritiesMeet n whole a b = Within a whole → Within b whole → Majority n a whole → Majority n b whole → Meet a b
