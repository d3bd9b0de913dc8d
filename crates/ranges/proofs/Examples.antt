-- The examples are computed.
use mathlib.Core.Path.{refl}
use Rattle.tables.specs.Below.{every}
use Rattle.soundness.specs.Sound.{arrays_whole, bounds_kept, before, ids_ascend, records_sound, election_sound, marks_ascend, marks_sound, own_clear, sound}
use Rattle.fresh.specs.Fresh.{fresh_node}
use Rattle.cases.specs.Cases.{cases_node}
use Rattle.listing.specs.Listing.{joined, ranges_from, flat, entered, lists}
use Rattle.ranges.specs.Ranges.{ranges}
use Rattle.ranges.specs.Examples.{Examples}

pub examples : Examples
unfolding ranges lists entered ranges_from joined flat cases_node fresh_node every arrays_whole bounds_kept before ids_ascend records_sound election_sound marks_ascend marks_sound own_clear sound
examples = record { fresh = refl; whole = refl; short = refl; several = refl }
