-- Document 01's cases of keys, all rows as one statement.
use mathlib.Core.Path.{refl}
use Rattle.tables.specs.Lists.{first_from}
use Rattle.slots.specs.Key.{up_to_closing, after_opening, hashed_part, with_bit, with_bits, with_byte, with_bytes, crc16, key_slot}
use Rattle.slots.specs.Cases.{key_rows, KeyCases}

pub key_cases : KeyCases
unfolding key_rows first_from up_to_closing after_opening hashed_part with_bit with_bits with_byte with_bytes crc16 key_slot
key_cases = refl
