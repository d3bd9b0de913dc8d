-- How much room the words of a listing take.
use Rattle.std.specs.Prelude.{ℕ, ◌+◌, ◌*◌, ◌≤◌, ◌≡◌, List, length}
use Rattle.tables.specs.Sizes.{slot_count}
use Rattle.listing.specs.Listing.{listing}
use Rattle.aloud.specs.Aloud.{spoken}

-- at most 60 bytes and a margin for each slot of a table
abbrev pub RoomEnough : List ℕ → ℕ → List ℕ → Type 0
RoomEnough margin size slots = length slots ≡ slot_count → size ≤ 65536 → length (spoken margin (listing size slots)) ≤ slot_count * (length margin + 60)
