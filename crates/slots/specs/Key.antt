-- From a key to its slot: document 01, "Keys to slots".
use Rattle.std.specs.Prelude.{ℕ, zero, suc, ◌+◌, ◌*◌, ◌/◌, ◌%◌, cond, List, [], ◌∷◌, take, drop, eqb, None, Option, Some}
use Rattle.std.specs.Int.Bits.{bit_xor}
use Rattle.tables.specs.Sizes.{slot_count}
use Rattle.tables.specs.Lists.{first_byte}

-- the hashed part: find the first `{`, then the first `}` after it; if both exist with at least one byte between, those
-- bytes, otherwise the whole key

-- `{` and `}`
abbrev pub opening : ℕ
opening = 0x7b

abbrev pub closing : ℕ
closing = 0x7d

-- by the first `}` of the rest, which is what stands after the `{`
unfoldable pub up_to_closing : List ℕ → List ℕ → Option ℕ → List ℕ
up_to_closing key rest None = key
up_to_closing key rest (Some between) = cond (eqb between 0) key (take between rest)

-- by the first `{` of the key
unfoldable pub after_opening : List ℕ → Option ℕ → List ℕ
after_opening key None = key
after_opening key (Some place) = up_to_closing key (drop (place + 1) key) (first_byte closing (drop (place + 1) key))

unfoldable pub hashed_part : List ℕ → List ℕ
hashed_part key = after_opening key (first_byte opening key)

-- CRC16: width 16, polynomial 1021 hex, initial 0, no reflection, no final xor

abbrev pub polynomial : ℕ
polynomial = 0x1021

-- the remainder moves up by one bit, within 16; if a one falls out at the top, the polynomial comes off
unfoldable pub with_bit : ℕ → ℕ
with_bit crc = bit_xor (crc * 2 % 65536) (crc / 32768 * polynomial)

unfoldable pub with_bits : ℕ → ℕ → ℕ
with_bits zero crc = crc
with_bits (suc n) crc = with_bit (with_bits n crc)

-- a byte comes in at the top, its highest bit first
unfoldable pub with_byte : ℕ → ℕ → ℕ
with_byte crc byte = with_bits 8 (bit_xor crc (byte * 256))

unfoldable pub with_bytes : ℕ → List ℕ → ℕ
with_bytes crc [] = crc
with_bytes crc (byte ∷ bytes) = with_bytes (with_byte crc byte) bytes

unfoldable pub crc16 : List ℕ → ℕ
crc16 bytes = with_bytes 0 bytes

-- the slot: CRC16 of the hashed part mod 16384

unfoldable pub key_slot : List ℕ → ℕ
key_slot key = crc16 (hashed_part key) % slot_count
