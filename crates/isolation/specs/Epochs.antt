-- How new the cached entries are (02, [5]): an older MOVED changes nothing and leads nowhere, and no entry's epoch falls.
use Rattle.std.specs.Prelude.{ℕ, ◌<◌, ◌≤◌, ◌≡◌, false, List, ◌++◌}
use Rattle.routing.specs.Replies.{Reply, moved}
use Rattle.lookups.specs.Keys.{slot_of}
use Rattle.lookups.specs.Lookups.{most_hops, at}
use Rattle.lookups.specs.declared.Question.{Question}
use Rattle.lookups.specs.declared.End.TheVariants.{Stale}
use Rattle.lookups.specs.declared.Stage.TheVariants.{Asking, Ended}
use Rattle.lookups.specs.declared.Lookup.{Lookup}
use Rattle.cache.specs.Cache.{Map, entry_at, held_epoch, wrong_length}
use Rattle.gateway.specs.Gateway.{no_roster, taken}
use Rattle.isolation.specs.Runs.{Event, after}
use Rattle.isolation.specs.EveryRun.{asks}

-- ---- one reply

-- what a lookup that asks ends as stale by: a MOVED that is lower, and nothing that comes before stale
pub record Lower (l : Lookup) (q : Question) (map : Map) (size : ℕ) (r : Reply) : Type 0 where
  -- neither the map nor the roster's size is refused
  pub length : wrong_length map ≡ false
  pub roster : no_roster size ≡ false
  -- not bad
  pub owner : ℕ
  pub epoch : ℕ
  pub is_moved_lem : r ≡ moved (slot_of l.key) owner epoch
  pub in_roster : owner < size
  -- no fifth redirection
  pub few : q.hops < most_hops
  -- lower than the epoch held of the slot
  pub lower : epoch < held_epoch size (entry_at map (slot_of l.key))

-- any lookup that asks ends as stale exactly then, and nothing changes but that
pub record StaleExactly (l : Lookup) (q : Question) (map : Map) (size : ℕ) (r : Reply) : Type 0 where
  pub ends : Lower l q map size r → taken (at l (Asking q)) map size r ≡ record { lookup = at l (Ended Stale); map = map }
  pub only : (taken (at l (Asking q)) map size r).lookup.stage ≡ Ended Stale → Lower l q map size r

-- whatever it names, and whatever the lookup: a lower MOVED leaves the map, and the lookup asks nobody any more
pub record NotSentBackwards (l : Lookup) (map : Map) (size named owner epoch : ℕ) : Type 0 where
  pub stays : (taken l map size (moved named owner epoch)).map ≡ map
  pub asks_nobody : asks (taken l map size (moved named owner epoch)).lookup.stage ≡ 0

abbrev pub NeverBackwards : Type 0
NeverBackwards = (l : Lookup) (map : Map) (size named owner epoch : ℕ)
    → epoch < held_epoch size (entry_at map (slot_of l.key)) → NotSentBackwards l map size named owner epoch

-- ---- every interleaving

-- a slot's entry stands in the roster, with no lower epoch than before
pub record NoLower (size s : ℕ) (before after : Map) : Type 0 where
  pub stands : (entry_at after s).owner < size
  pub epoch : (entry_at before s).epoch ≤ (entry_at after s).epoch

-- while an entry stands in the roster its epoch never falls, whichever lookups start and are replied to, from any map; and it
-- stands there from then on
abbrev pub EpochNeverFalls : Type 0
EpochNeverFalls = (size : ℕ) (map : Map) (s : ℕ) (earlier later : List Event)
    → (entry_at (after size map earlier).map s).owner < size
    → NoLower size s (after size map earlier).map (after size map (later ++ earlier)).map
