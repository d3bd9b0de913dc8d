-- The gateway's cached map (02, [4] and [5]): who owns each slot, and how new that is.
use Rattle.std.specs.Prelude.{ℕ, Bool, cond, not, List, [], ◌∷◌, length, get_or, set, eqb, ltb}
use Rattle.tables.specs.Sizes.{slot_count}
use Rattle.tables.specs.Checks.{any_of}
use Rattle.cache.specs.declared.Entry.{Entry}

-- two lent lists: each slot's owner, and beside it the configEpoch that the owner was named with
pub record Map : Type 0 where
  pub owners : List ℕ
  pub epochs : List ℕ

abbrev pub map_of : (owners epochs : List ℕ) → Map
map_of owners epochs = record { owners = owners; epochs = epochs }

-- one of them has another length than an entry for each slot
unfoldable pub wrong_length : Map → Bool
wrong_length map = any_of (not (eqb (length map.owners) slot_count) ∷ not (eqb (length map.epochs) slot_count) ∷ [])

-- a slot's entry
abbrev pub entry_at : Map → ℕ → Entry
entry_at map s = record { owner = get_or map.owners s 0; epoch = get_or map.epochs s 0 }

-- a number of the roster; an entry whose owner is not in it is none
abbrev pub is_node : (size k : ℕ) → Bool
is_node size k = ltb k size

-- the epoch held of a slot: its entry's, and 0 if that is none
abbrev pub held_epoch : (size : ℕ) → Entry → ℕ
held_epoch size entry = cond (is_node size entry.owner) entry.epoch 0

-- the map with another entry of one slot
abbrev pub entered : Map → ℕ → Entry → Map
entered map s entry = map_of (set map.owners s entry.owner) (set map.epochs s entry.epoch)
