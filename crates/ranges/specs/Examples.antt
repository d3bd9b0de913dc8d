-- What a listing comes to, computed: asked of the node of 01's cases, whose roster has five nodes.
use Rattle.std.specs.Prelude.{◌≡◌, List, [], ◌∷◌, ◌++◌, ℕ, replicate}
use Rattle.tables.specs.Sizes.{slot_count, unowned}
use Rattle.answers.specs.declared.Answer.{Answer}
use Rattle.answers.specs.declared.Answer.TheVariants.{Listed, ListShort}
use Rattle.listing.specs.Listing.{ListAfter}
use Rattle.cases.specs.Cases.{cases_node}
use Rattle.ranges.specs.Ranges.{ranges}

abbrev outcome : Answer → List ℕ → ListAfter
outcome answer list = record { answer = answer; list = list }

-- every slot has that entry
abbrev all : ℕ → List ℕ
all entry = replicate slot_count entry

-- two ranges, one slot that has an owner of no roster between them, and at the end the slots of the first owner again
abbrev some : List ℕ
some = replicate 2 1 ++ (5 ∷ 3 ∷ []) ++ replicate 16370 unowned ++ replicate 10 1

pub record Examples : Type 0 where
  -- a fresh table gives no ranges
  pub fresh : ranges cases_node (all unowned) [] ≡ outcome (Listed 0) []
  -- one owner of all gives one, 0 to 16383; a number behind it stays
  pub whole : ranges cases_node (all 2) (7 ∷ 7 ∷ 7 ∷ 7 ∷ []) ≡ outcome (Listed 1) (0 ∷ 16383 ∷ 2 ∷ 7 ∷ [])
  -- one number less is too short for it
  pub short : ranges cases_node (all 2) (7 ∷ 7 ∷ []) ≡ outcome (ListShort 1) (7 ∷ 7 ∷ [])
  -- several
  pub several : ranges cases_node some (replicate 9 7) ≡ outcome (Listed 3) (0 ∷ 1 ∷ 1 ∷ 3 ∷ 3 ∷ 3 ∷ 16374 ∷ 16383 ∷ 1 ∷ [])
