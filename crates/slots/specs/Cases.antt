-- Document 01, "Node for the cases": the cases of keys that are marked with a star, as rows of one table.
use Rattle.std.specs.Prelude.{ℕ, ◌≡◌, List, [], ◌∷◌, ◌++◌, map}
use Rattle.slots.specs.Key.{opening, closing, hashed_part, crc16, key_slot}

-- what a row says of its key
pub data Said : Type 0 where
  crc_is : ℕ → Said
  slot_is : ℕ → Said
  part_is : List ℕ → Said

pub record KeyRow : Type 0 where
  pub key : List ℕ
  pub said : Said

-- the same, by the definitions
abbrev pub said_of : List ℕ → Said → Said
said_of key (crc_is n) = crc_is (crc16 (hashed_part key))
said_of key (slot_is n) = slot_is (key_slot key)
said_of key (part_is p) = part_is (hashed_part key)

abbrev pub key_answered : KeyRow → KeyRow
key_answered row = record { key = row.key; said = said_of row.key row.said }

-- `123456789`, `foo`, `bar` and `zap`
abbrev digits : List ℕ
digits = 0x31 ∷ 0x32 ∷ 0x33 ∷ 0x34 ∷ 0x35 ∷ 0x36 ∷ 0x37 ∷ 0x38 ∷ 0x39 ∷ []

abbrev foo : List ℕ
foo = 0x66 ∷ 0x6f ∷ 0x6f ∷ []

abbrev bar : List ℕ
bar = 0x62 ∷ 0x61 ∷ 0x72 ∷ []

abbrev zap : List ℕ
zap = 0x7a ∷ 0x61 ∷ 0x70 ∷ []

-- `foo{123456789}{zap}`, `foo{}{123456789}` and `foo{{bar}}zap`
abbrev two_tags : List ℕ
two_tags = foo ++ opening ∷ digits ++ closing ∷ opening ∷ zap ++ closing ∷ []

abbrev empty_tag : List ℕ
empty_tag = foo ++ opening ∷ closing ∷ opening ∷ digits ++ closing ∷ []

abbrev nested_tag : List ℕ
nested_tag = foo ++ opening ∷ opening ∷ bar ++ closing ∷ closing ∷ zap

unfoldable pub key_rows : List KeyRow
key_rows =
    record { key = digits; said = crc_is 0x31c3 } ∷
    record { key = digits; said = slot_is 12739 } ∷
    record { key = 0x01 ∷ []; said = slot_is 4129 } ∷
    record { key = []; said = slot_is 0 } ∷
    record { key = two_tags; said = slot_is 12739 } ∷
    record { key = empty_tag; said = part_is empty_tag } ∷
    record { key = nested_tag; said = part_is (opening ∷ bar) } ∷
    []

-- what the definitions make of each row is the row: `proofs/Cases.antt` proves it
abbrev pub KeyCases : Type 0
KeyCases = map key_answered key_rows ≡ key_rows
