-- One lookup from its start through a list of replies, for callers that time it: in one number, and the map with its epochs.
use Rattle.std.specs.Prelude.{ℕ, ◌+◌, ◌-◌, ◌*◌, ◌/◌, ◌%◌, cond, eqb, length, get_or}
use mathlib.Core.List.{List, [], ◌∷◌, foldl}
use Rattle.std.specs.Int.Bits.{bit_xor}
use Rattle.tables.specs.Checks.{checked}
use Rattle.routing.specs.Replies.{Reply, refused, down, serve, ask, moved}
use Rattle.lookups.specs.Keys.{key_room, front_of, key_bytes}
use Rattle.lookups.specs.declared.Key.{Key}
use Rattle.lookups.specs.declared.End.{End}
use Rattle.lookups.specs.declared.End.TheVariants.{Served, Bad, Down, Declined, TooMany, Stale, Refused}
use Rattle.lookups.specs.declared.Stage.{Stage}
use Rattle.lookups.specs.declared.Stage.TheVariants.{Asking, Ended}
use Rattle.lookups.specs.declared.Lookup.{Lookup}
use Rattle.cache.specs.Cache.{Map}
use Rattle.gateway.specs.Gateway.{started, Taken, taken}

-- ---- a reply as one number: its kind, slot, node and epoch, 16 bits each from the lowest on

abbrev pub kind_of : ℕ → ℕ
kind_of code = code % 65536

abbrev pub slot_in : ℕ → ℕ
slot_in code = code / 65536 % 65536

abbrev pub node_in : ℕ → ℕ
node_in code = code / 4294967296 % 65536

-- of a MOVED alone; the epochs beside the map may be greater
abbrev pub epoch_in : ℕ → ℕ
epoch_in code = code / 281474976710656 % 65536

-- 0 is serve, 1 and 7 the refusals with these numbers, 2 down, 3 ASK and any other MOVED
abbrev pub reply_of : ℕ → Reply
reply_of code =
    checked (λ (r : Reply). r)
    ((eqb (kind_of code) 0, serve)
    ∷ (eqb (kind_of code) 1, refused 1)
    ∷ (eqb (kind_of code) 7, refused 7)
    ∷ (eqb (kind_of code) 2, down)
    ∷ (eqb (kind_of code) 3, ask (slot_in code) (node_in code))
    ∷ [])
    (moved (slot_in code) (node_in code) (epoch_in code))

-- ---- the lookup

-- a text as a key
abbrev pub key_of : List ℕ → Key
key_of text = record { bytes = front_of key_room text; length = length text }

-- before the first reply
abbrev pub begun : Map → (size household : ℕ) → Key → Taken
begun map size household key = record { lookup = started map size household key; map = map }

-- one reply
abbrev pub takes : ℕ → Taken → ℕ → Taken
takes size t code = taken t.lookup t.map size (reply_of code)

-- all of them
abbrev pub walked : ℕ → Taken → List ℕ → Taken
walked size t codes = foldl (takes size) t codes

-- ---- in one number

-- three numbers in 32 bits: 8, 8 and 16 from the highest on
abbrev pub word : (high middle low : ℕ) → ℕ
word high middle low = low + middle * 65536 + high * 16777216

-- a stage's number and its values
abbrev pub end_digest : End → ℕ
end_digest (Served node) = word 2 0 node
end_digest Bad = word 3 0 0
end_digest Down = word 4 0 0
end_digest (Declined number) = word 5 0 number
end_digest TooMany = word 6 0 0
end_digest (Refused number) = word 7 0 number
end_digest Stale = word 8 0 0

abbrev pub stage_digest : Stage → ℕ
stage_digest (Asking q) = word (cond q.asking 1 0) q.hops q.node
stage_digest (Ended end) = end_digest end

-- a key's last byte, its first one, and its length modulo 2^16
abbrev pub first_of : List ℕ → ℕ
first_of text = get_or text 0 0

abbrev pub last_of : List ℕ → ℕ
last_of text = get_or text (length text - 1) 0

abbrev pub key_digest : Key → ℕ
key_digest key = word (last_of (key_bytes key)) (first_of (key_bytes key)) (key.length % 65536)

-- the stage and the key, 32 bits each, and the household over both
abbrev pub lookup_digest : Lookup → ℕ
lookup_digest l = bit_xor l.household (stage_digest l.stage + key_digest l.key * 4294967296)

pub record Digested : Type 0 where
  pub digest : ℕ
  pub map : Map

abbrev pub digested : Taken → Digested
digested t = record { digest = lookup_digest t.lookup; map = t.map }
