-- A key that a lookup carries by value (02, [4]): its bytes, and its slot.
use Rattle.std.specs.Prelude.{ℕ, List, take}
use Rattle.slots.specs.Key.{key_slot}
use Rattle.lookups.specs.declared.Key.{Key}

-- the room that a lookup has for its key
abbrev pub key_room : ℕ
key_room = 512

-- the front of a text; all of it where there is less
abbrev pub front_of : ℕ → List ℕ → List ℕ
front_of n text = take n text

-- the key itself
abbrev pub key_bytes : Key → List ℕ
key_bytes key = front_of key.length key.bytes

-- its slot
abbrev pub slot_of : Key → ℕ
slot_of key = key_slot (key_bytes key)
