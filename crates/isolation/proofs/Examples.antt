-- The computed runs.
use mathlib.Core.Path.{refl}
use Rattle.tables.specs.Lists.{first_from}
use Rattle.slots.specs.Key.{up_to_closing, after_opening, hashed_part, with_bit, with_bits, with_byte, with_bytes, crc16, key_slot}
use Rattle.lookups.specs.Lookups.{heard}
use Rattle.cache.specs.Cache.{wrong_length}
use Rattle.gateway.specs.Gateway.{no_roster, started, turn, taken}
use Rattle.isolation.specs.Runs.{after, answers}
use Rattle.isolation.specs.Examples.{Examples}

pub examples : Examples
unfolding first_from up_to_closing after_opening hashed_part with_bit with_bits with_byte with_bytes crc16 key_slot wrong_length no_roster started heard turn taken after answers
examples = record { shifted = refl; not_shifted = refl; other = refl; no_more = refl; chased = refl; with_asking_lem = refl; stays = refl; backwards = refl; entry_stays = refl; equal = refl; greater = refl; bad = refl; stale = refl; not_stale = refl }
