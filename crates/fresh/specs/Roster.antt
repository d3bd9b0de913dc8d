-- A good roster: what the ids, the roles, this node's number and T must be for a fresh node to be sound.
use Rattle.std.specs.Prelude.{ℕ, ◌+◌, ◌-◌, ◌≡◌, Bool, List, [], ◌∷◌, ltb, leb, length, get_or}
use Rattle.tables.specs.Checks.{all_of}
use Rattle.tables.specs.Below.{every}
use Rattle.tables.specs.Sizes.{node_room, least_timeout, most_timeout}
use Rattle.state.specs.Node.{no_id}
use Rattle.state.specs.declared.NodeId.{NodeId}
use Rattle.state.specs.declared.Role.{Role}
use Rattle.state.specs.declared.Role.TheVariants.{Master}
use Rattle.soundness.specs.Sound.{before, follow_sound, sound}
use Rattle.fresh.specs.Fresh.{fresh_node}

-- T within its bounds, 1 to 64 nodes
abbrev pub sizes_good : ℕ → ℕ → Bool
sizes_good size timeout = all_of (leb least_timeout timeout ∷ leb timeout most_timeout ∷ leb 1 size ∷ leb size node_room ∷ [])

-- the ids ascend
abbrev pub ids_good : List NodeId → ℕ → Bool
ids_good ids size = every (size - 1) (λ k. before (get_or ids k no_id).bytes (get_or ids (k + 1) no_id).bytes)

-- followed nodes exist, and nobody follows itself
abbrev pub roles_good : List Role → ℕ → Bool
roles_good roles size = every size (λ k. follow_sound size k (get_or roles k Master))

-- and this node is in the roster
unfoldable pub good_roster : List NodeId → List Role → ℕ → ℕ → ℕ → Bool
good_roster ids roles size me timeout = all_of (sizes_good size timeout ∷ ids_good ids size ∷ ltb me size ∷ roles_good roles size ∷ [])

-- a fresh node is sound if its roster is good, and only then; ids and roles stand in arrays of the program, with room for 64
abbrev pub FreshSound : List NodeId → List Role → ℕ → ℕ → ℕ → Type 0
FreshSound ids roles size me timeout =
    length ids ≡ node_room → length roles ≡ node_room → sound (fresh_node ids roles size me timeout) ≡ good_roster ids roles size me timeout
