-- What the definitions of sets say of their members, number by number.
use Rattle.std.specs.Prelude.{ℕ, ◌<◌, ◌≡◌, ◌↔◌, Bool, true, false, ◌||◌, cond, [], ◌∷◌, eqb, ltb}
use Rattle.tables.specs.Sizes.{node_room}
use Rattle.tables.specs.Below as numbers
use Rattle.tables.specs.Checks.{all_of}
use Rattle.tables.specs.Sets.{AllFit}
use Rattle.tables.specs.Majorities.{Within, Majority}
use Rattle.nodesets.specs.NodeSets.{words, has, added, count, majority, within, both, below, gathered}
use Rattle.nodesets.specs.declared.NodeSet.{NodeSet}

-- every word fits 64 bits, as in every set of the program
abbrev pub Fits : NodeSet → Type 0
Fits s = AllFit (words s)

pub record Members (s : NodeSet) : Type 0 where
  -- every member is a number that a roster may have
  pub in_room_lem : (v : ℕ) → has s v ≡ true → v < node_room
  -- with such a number more, it has the members that it had and that number
  pub one_more : (v k : ℕ) → v < node_room → has (added s v) k ≡ (has s k || eqb k v)
  -- of it and another, the members of both
  pub in_both : (other : NodeSet) (k : ℕ) → has (both s other) k ≡ all_of (has s k ∷ has other k ∷ [])
  -- its count of ones is the number of its members
  pub counted : Fits s → count s ≡ numbers.count (has s) node_room
  -- it is below n exactly when each member is
  pub each_below : (n : ℕ) → Fits s → (below s n ≡ true) ↔ ((v : ℕ) → has s v ≡ true → v < n)

pub record Parts (part whole : NodeSet) : Type 0 where
  -- the part is within the whole exactly when each of its members is one of the whole
  pub each_within : Fits part → (within part whole ≡ true) ↔ Within (has part) (has whole)
  -- it is more than half by the counts of ones exactly when it has more than half of the members
  pub most : Fits part → Fits whole → (majority whole part ≡ true) ↔ Majority node_room (has part) (has whole)

-- the set gathered by a test has the numbers that pass, of those that a roster may have
abbrev pub Gathers : (ℕ → Bool) → Type 0
Gathers p = (k : ℕ) → has (gathered p) k ≡ cond (ltb k node_room) (p k) false
