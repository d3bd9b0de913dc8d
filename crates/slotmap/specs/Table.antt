-- What is printed of a slot table: its listing in words, and the totals.
use Rattle.std.specs.Prelude.{ℕ, List, [], ◌++◌}
use Rattle.listing.specs.Listing.{listing}
use Rattle.aloud.specs.Aloud.{spoken}
use Rattle.totals.specs.Totals.{totals}

unfoldable pub in_words : ℕ → List ℕ → List ℕ
in_words size slots = spoken [] (listing size slots) ++ totals size slots
