-- The gateway's router (02, [4] and [5]): how a lookup starts, and what a reply does to it and to the cached map.
use Rattle.std.specs.Prelude.{ℕ, Bool, false, cond, List, [], ◌∷◌, ◌++◌, eqb, ltb, Option, None, Some}
use Rattle.tables.specs.Sizes.{node_room}
use Rattle.tables.specs.Checks.{checked, any_of}
use Rattle.state.specs.declared.Node.{Node}
use Rattle.routing.specs.Replies.{Reply, refused, down, serve, ask, moved, routed}
use Rattle.cache.specs.Cache.{Map, wrong_length, entry_at, is_node, held_epoch, entered}
use Rattle.lookups.specs.Keys.{key_room, key_bytes, slot_of}
use Rattle.lookups.specs.Lookups.{turns, ends, at, heard}
use Rattle.lookups.specs.declared.Key.{Key}
use Rattle.lookups.specs.declared.End.TheVariants.{Refused}
use Rattle.lookups.specs.declared.Stage.{Stage}
use Rattle.lookups.specs.declared.Stage.TheVariants.{Asking, Ended}
use Rattle.lookups.specs.declared.Lookup.{Lookup}
use Rattle.cache.specs.declared.Entry.{Entry}
use Rattle.lookups.specs.declared.Turn.{Turn}

-- the roster's size is outside 1 to 64
unfoldable pub no_roster : ℕ → Bool
no_roster size = any_of (eqb size 0 ∷ ltb node_room size ∷ [])

-- a map of another length is refused as 1, then such a size as 3
abbrev pub map_checks : (wrong : Bool) (size : ℕ) → List (Bool × ℕ)
map_checks wrong size = (wrong, 1) ∷ (no_roster size, 3) ∷ []

-- ---- a lookup starts

-- then a key that the lookup has no room for as 49, a number of ours
abbrev pub start_checks : (wrong : Bool) (size : ℕ) → Key → List (Bool × ℕ)
start_checks wrong size key = map_checks wrong size ++ ((ltb key_room key.length, 49) ∷ [])

-- ask the cached owner, or node 0 if there is none
abbrev pub first_asked : (size owner : ℕ) → ℕ
first_asked size owner = cond (is_node size owner) owner 0

-- by whether the map's length is wrong, and the owner in the entry of the key's slot
abbrev pub first_stage : (wrong : Bool) (owner size : ℕ) → Key → Stage
first_stage wrong owner size key =
    checked (λ (n : ℕ). Ended (Refused n)) (start_checks wrong size key)
    (Asking (record { node = first_asked size owner; asking = false; hops = 0 }))

unfoldable pub started : Map → (size household : ℕ) → Key → Lookup
started map size household key =
    record { household = household; key = key; stage = first_stage (wrong_length map) (entry_at map (slot_of key)).owner size key }

-- ---- a reply arrives

-- one that has ended stays as it ended; a map or a size that is refused ends it too
unfoldable pub turn : (wrong : Bool) (size s held : ℕ) → Stage → Reply → Turn
turn wrong size s held (Ended end) r = turns (Ended end)
turn wrong size s held (Asking q) r = checked (λ (n : ℕ). ends (Refused n)) (map_checks wrong size) (heard size s held q r)

-- the slot that a redirection names: the key's, if it is followed
abbrev pub named_slot : Reply → ℕ
named_slot (refused n) = 0
named_slot down = 0
named_slot serve = 0
named_slot (ask named peer) = named
named_slot (moved named owner epoch) = named

-- what was learned goes into the entry of that one slot
abbrev pub learn : Map → ℕ → Option Entry → Map
learn map s None = map
learn map s (Some entry) = entered map s entry

-- the turn of a lookup, on its own key's slot, with the epoch that is held of it now
abbrev pub turn_of : Lookup → Map → ℕ → Reply → Turn
turn_of l map size r = turn (wrong_length map) size (slot_of l.key) (held_epoch size (entry_at map (slot_of l.key))) l.stage r

-- a lookup and the map, after a reply
pub record Taken : Type 0 where
  pub lookup : Lookup
  pub map : Map

unfoldable pub taken : Lookup → Map → ℕ → Reply → Taken
taken l map size r =
    record { lookup = at l (turn_of l map size r).stage; map = learn map (slot_of l.key) (turn_of l map size r).learned }

-- ---- a node is asked

-- the question goes with ASKING
abbrev pub with_asking : Stage → Bool
with_asking (Asking q) = q.asking
with_asking (Ended end) = false

-- the reply of a node that has the key or not, taken
unfoldable pub asked : Lookup → Map → ℕ → Node → List ℕ → Bool → Taken
asked l map size n slots present = taken l map size (routed n slots (key_bytes l.key) present (with_asking l.stage))
