-- One reply (02, [4] and [5]): what it may do to a lookup and to the cached map, and what a node's reply never does.
use Rattle.std.specs.Prelude.{ℕ, ◌+◌, ◌<◌, ◌≤◌, ◌≡◌, ◌⊎◌, Bool, false, List, length, get_or, set}
use Rattle.state.specs.declared.Node.{Node}
use Rattle.routing.specs.Replies.{Reply, moved, known_epoch}
use Rattle.lookups.specs.Keys.{slot_of}
use Rattle.lookups.specs.Lookups.{at}
use Rattle.lookups.specs.declared.Question.{Question}
use Rattle.lookups.specs.declared.End.TheVariants.{Served, Bad}
use Rattle.lookups.specs.declared.Stage.TheVariants.{Asking, Ended}
use Rattle.lookups.specs.declared.Lookup.{Lookup}
use Rattle.cache.specs.Cache.{Map, entry_at, held_epoch}
use Rattle.gateway.specs.Gateway.{Taken, taken, asked}

-- a MOVED that is followed: of the key's slot, to a roster node, and with no lower epoch than the one held of the slot. The entry
-- of that slot is then the owner named, with that epoch, and this owner is asked next, without ASKING
pub record Follows (l : Lookup) (map : Map) (size : ℕ) (r : Reply) (t : Taken) : Type 0 where
  pub question : Question
  pub was : l.stage ≡ Asking question
  pub owner : ℕ
  pub epoch : ℕ
  pub is_moved_lem : r ≡ moved (slot_of l.key) owner epoch
  pub in_roster : owner < size
  pub not_older : held_epoch size (entry_at map (slot_of l.key)) ≤ epoch
  pub owners : t.map.owners ≡ set map.owners (slot_of l.key) owner
  pub epochs : t.map.epochs ≡ set map.epochs (slot_of l.key) epoch
  pub next : t.lookup.stage ≡ Asking (record { node = owner; asking = false; hops = question.hops + 1 })

-- any lookup, map, roster's size and reply
pub record OneReply (l : Lookup) (map : Map) (size : ℕ) (r : Reply) : Type 0 where
  -- what comes out carries the household and the key that went in
  pub household : (taken l map size r).lookup.household ≡ l.household
  pub key : (taken l map size r).lookup.key ≡ l.key
  -- no entry changes but that of the key's slot
  pub others : (s : ℕ) → (s ≡ slot_of l.key → ⊥) → entry_at (taken l map size r).map s ≡ entry_at map s
  -- nor how many there are
  pub owners : length (taken l map size r).map.owners ≡ length map.owners
  pub epochs : length (taken l map size r).map.epochs ≡ length map.epochs
  -- and that one changes only by a MOVED that is followed
  pub moves : ((taken l map size r).map ≡ map) ⊎ Follows l map size r (taken l map size r)

-- any lookup that asks, and any node, of which routing's promise is all that is known
pub record NodesReply (l : Lookup) (q : Question) (map : Map) (size : ℕ) (n : Node) (slots : List ℕ) (present : Bool) : Type 0 where
  -- a node whose roster is no larger than the gateway's never ends the lookup as bad
  pub never_bad : n.size ≤ size → (asked (at l (Asking q)) map size n slots present).lookup.stage ≡ Ended Bad → ⊥
  -- where it ends as served by the node that was asked, that one is named
  pub served : (k : ℕ) → n.me ≡ q.node → (asked (at l (Asking q)) map size n slots present).lookup.stage ≡ Ended (Served k) → k ≡ n.me
  -- a stale node cannot send the router backwards: where it knows the slot's owner by a lower epoch than the one held of the slot,
  -- the map stays as it was
  pub not_backwards : known_epoch n (get_or slots (slot_of l.key) 0) < held_epoch size (entry_at map (slot_of l.key))
      → (asked (at l (Asking q)) map size n slots present).map ≡ map
