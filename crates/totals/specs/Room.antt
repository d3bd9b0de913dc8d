-- How much room the line of totals takes.
use Rattle.std.specs.Prelude.{ℕ, ◌+◌, ◌*◌, ◌≤◌, ◌≡◌, List, length}
use Rattle.tables.specs.Sizes.{slot_count}
use Rattle.totals.specs.Totals.{totals}

-- at most 40 bytes for each node of the roster, and 40 for the rest
abbrev pub RoomEnough : ℕ → List ℕ → Type 0
RoomEnough size slots = length slots ≡ slot_count → size ≤ 65536 → length (totals size slots) ≤ 40 * size + 40
