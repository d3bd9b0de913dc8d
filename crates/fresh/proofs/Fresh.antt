-- A fresh node is sound exactly if its roster is good.
use mathlib.Core.Path.{◌≡◌, refl, ap, ◌∙◌}
use mathlib.Core.Bool.{Bool, true, false, cond}
use mathlib.Core.List.{List}
use Prim.Native.Nat.{ℕ}
use lib.ListN.{length, length-map, length-replicate, get_or, get_or-map}
use borrow.Author.Tests.{eq-eqb}
use Rattle.tables.specs.Sizes.{node_room, mark_room}
use Rattle.tables.specs.Below.{every}
use Rattle.tables.proofs.Below.{every_same}
use Rattle.state.specs.Node.{record_at, no_mark}
use Rattle.fresh.specs.Fresh.{newcomer, fresh_node}
use Rattle.state.specs.declared.Node.{Node}
use Rattle.state.specs.declared.NodeId.{NodeId}
use Rattle.state.specs.declared.Role.{Role}
use Rattle.state.specs.declared.Role.TheVariants.{Master}
use Rattle.soundness.specs.Sound.{sound, arrays_whole, bounds_kept, ids_ascend, follow_sound, record_sound, record_sound_at, records_sound, election_sound, marks_ascend, marks_sound, own_clear}
use Rattle.fresh.specs.Roster.{good_roster, sizes_good, roles_good, FreshSound}

plain : (b : Bool) → cond b true false ≡ b
plain true = refl
plain false = refl

module _ (ids : List NodeId) (roles : List Role) (size me timeout : ℕ) where
  abbrev node : Node
  node = fresh_node ids roles size me timeout

  known : (k : ℕ) → record_at node k ≡ newcomer (get_or roles k Master)
  unfolding fresh_node
  known k = get_or-map newcomer roles k Master

  arrays : length ids ≡ node_room → length roles ≡ node_room → arrays_whole node ≡ true
  unfolding arrays_whole fresh_node
  arrays i r = rw (eq-eqb _ _ i, eq-eqb _ _ (length-map roles newcomer ∙ r)) (eq-eqb _ _ (length-replicate mark_room no_mark))

  sizes : bounds_kept node ≡ sizes_good size timeout
  unfolding bounds_kept fresh_node
  sizes = rw (plain _)

  follows : records_sound node ≡ roles_good roles size
  unfolding records_sound fresh_node
  follows = every_same (record_sound_at node) (λ k. follow_sound size k (get_or roles k Master)) size (λ k l. ap (record_sound size 0 0 k) (known k) ∙ plain _)

  clear : own_clear (record_at node me) ≡ true
  unfolding own_clear
  clear = ap own_clear (known me)

pub fresh_sound : (ids : List NodeId) (roles : List Role) (size me timeout : ℕ) → FreshSound ids roles size me timeout
unfolding sound good_roster fresh_node ids_ascend election_sound marks_ascend marks_sound every
fresh_sound ids roles size me timeout i r =
    rw (arrays ids roles size me timeout i r, sizes ids roles size me timeout, follows ids roles size me timeout, clear ids roles size me timeout) (rw (plain _))
