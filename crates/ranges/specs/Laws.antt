-- What holds of every call that lists ranges.
use Rattle.std.specs.Prelude.{◌≡◌, true, List, ℕ, length}
use Rattle.tables.specs.Sizes.{slot_count}
use Rattle.answers.specs.Answers.{number}
use Rattle.state.specs.declared.Node.{Node}
use Rattle.soundness.specs.Sound.{sound}
use Rattle.listing.specs.Listing.{lists}
use Rattle.ranges.specs.Ranges.{ranges}

pub record RangesLaws (n : Node) (slots list : List ℕ) : Type 0 where
  -- a table of the right length and a sound state: the listing for the node's roster
  pub taken : length slots ≡ slot_count → sound n ≡ true → ranges n slots list ≡ lists n.size slots list
  -- any answer but 0 writes nothing
  pub refused : (number (ranges n slots list).answer ≡ 0 → ⊥) → (ranges n slots list).list ≡ list
