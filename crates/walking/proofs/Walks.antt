-- Two lookups whose keys have the same bytes and the same length walk alike.
use mathlib.Core.Path.{◌≡◌, refl, sym, ◌∙◌}
use mathlib.Core.List.{List, [], ◌∷◌}
use Prim.Native.Nat.{ℕ, ◌+◌, ◌≤◌, ◌<◌}
use native.Mathlib.Nat.{min-le_right}
use native.Mathlib.Numerals.{add-one}
use lib.ListN.{length, take, drop, get_or, length-take, drop_of_length-le}
use lib.Seq.{drop-cons, take_all}
use Rattle.routing.specs.Replies.{Reply}
use Rattle.lookups.specs.Keys.{key_room, key_bytes}
use Rattle.lookups.specs.declared.Key.{Key}
use Rattle.lookups.specs.declared.Lookup.{Lookup}
use Rattle.cache.specs.Cache.{Map}
use Rattle.gateway.specs.Gateway.{started, Taken, taken}
use Rattle.walking.specs.Walking.{reply_of, key_of, begun, takes, walked, digested}

record Alike (a b : Taken) : Type 0 where
  household : a.lookup.household ≡ b.lookup.household
  bytes : key_bytes a.lookup.key ≡ key_bytes b.lookup.key
  length : a.lookup.key.length ≡ b.lookup.key.length
  stage : a.lookup.stage ≡ b.lookup.stage
  map : a.map ≡ b.map

-- at each reply
one_more : (size code : ℕ) {a b : Taken} → Alike a b → Alike (takes size a code) (takes size b code)
unfolding taken
one_more size code m = record { household = m.household; bytes = m.bytes; length = m.length; stage = rw (m.bytes, m.stage, m.map); map = rw (m.bytes, m.stage, m.map) }

-- to the end
to_the_end : (size : ℕ) (codes : List ℕ) {a b : Taken} → Alike a b → digested (walked size a codes) ≡ digested (walked size b codes)
to_the_end size [] m = rw (m.household, m.bytes, m.length, m.stage, m.map)
to_the_end size (code ∷ codes) m = to_the_end size codes (one_more size code m)

-- a text's key has the text's front
front : (text : List ℕ) → key_bytes (key_of text) ≡ take key_room text
front text = take_all (length text) (take key_room text) (rw (length-take key_room text) (min-le_right key_room (length text)))

abbrev pub here : Lookup → Map → Taken
here lookup map = record { lookup = lookup; map = map }

-- any key with these bytes and that length gives the same digest
pub at_first : (map : Map) (size household : ℕ) (text codes : List ℕ) (k : Key) → (key_bytes k ≡ take key_room text) × (k.length ≡ length text) → (l : Lookup) → l ≡ started map size household k → digested (walked size (begun map size household (key_of text)) codes) ≡ digested (walked size (here l map) codes)
unfolding started
at_first map size household text codes k (e, h) l q =
    to_the_end size codes (rw q (record { household = refl; bytes = front text ∙ sym e; length = sym h; stage = rw (front text, e, h); map = refl }))

-- ---- the replies that are left

pub one_less : (size : ℕ) (t : Taken) (codes : List ℕ) (i : ℕ) → i < length codes → (s : Reply) → s ≡ reply_of (get_or codes i 0) → (r : Taken) → r ≡ taken t.lookup t.map size s → digested (walked size t (drop i codes)) ≡ digested (walked size r (drop (i + 1) codes))
one_less size t codes i h s e r q = rw (q, e, add-one i, drop-cons codes i 0 h)

pub none_left : (size : ℕ) (t : Taken) (codes : List ℕ) (i : ℕ) → length codes ≤ i → digested (walked size t (drop i codes)) ≡ digested t
none_left size t codes i h = rw (drop_of_length-le codes h)
