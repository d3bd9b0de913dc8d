-- The call that lists the ranges of a slot table (document 02, [1]).
use Rattle.std.specs.Prelude.{List, ℕ, eqb, length}
use Rattle.tables.specs.Sizes.{slot_count}
use Rattle.tables.specs.Checks.{checked}
use Rattle.state.specs.declared.Node.{Node}
use Rattle.entry.specs.Entry.{entry_checks}
use Rattle.listing.specs.Listing.{ListAfter, refused, lists}

-- refusals 1, then 7; then the listing for the node's roster: 40, or 0
unfoldable pub ranges : Node → List ℕ → List ℕ → ListAfter
ranges n slots list = checked (refused list) (entry_checks (eqb (length slots) slot_count) n) (lists n.size slots list)
