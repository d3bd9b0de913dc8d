-- Lookups do not see each other (02, [4] and [5]): what a lookup's answers depend on, and two runs that give it the same answers.
use Rattle.std.specs.Prelude.{ℕ, ◌≡◌, Bool, true, false, cond, List, [], ◌∷◌, eqb}
use Rattle.routing.specs.Replies.{Reply, refused, down, serve, ask, moved}
use Rattle.lookups.specs.Keys.{slot_of}
use Rattle.lookups.specs.Lookups.{at}
use Rattle.lookups.specs.declared.Key.{Key}
use Rattle.cache.specs.Cache.{Map, entry_at, held_epoch, wrong_length}
use Rattle.gateway.specs.Gateway.{first_stage, turn}
use Rattle.isolation.specs.Runs.{Event, Happening, starts, hears, Progress, unstarted, reached, after, answers}

-- ---- what an answer depends on

-- what a lookup is given: at its start its household, its key and the cached owner of its own slot as it then stands; and each reply
-- to it, with the epoch that is held of that slot as it stands at that reply
pub data Own : Type 0 where
  begun : (household : ℕ) (key : Key) (owner : ℕ) → Own
  replied : Reply → (held : ℕ) → Own

-- only a MOVED is held against it: with any other reply nothing is given of the entry
abbrev pub held_against : Reply → ℕ → ℕ
held_against (refused n) held = 0
held_against down held = 0
held_against serve held = 0
held_against (ask named peer) held = 0
held_against (moved named owner epoch) held = held

abbrev pub given : ℕ → Map → Progress → Happening → Own
given size map p (starts household key) = begun household key (entry_at map (slot_of key)).owner
given size map unstarted (hears r) = replied r 0
given size map (reached l) (hears r) = replied r (held_against r (held_epoch size (entry_at map (slot_of l.key))))

-- in a run, the latest first
module _ (size : ℕ) (map : Map) where
  unfoldable pub own : ℕ → List Event → List Own
  own i [] = []
  own i (e ∷ es) = cond (eqb e.lookup i) (given size (after size map es).map ((after size map es).lookups i) e.what ∷ own i es) (own i es)

-- what it comes to by that and the roster's size: there is no map here, and no other lookup
abbrev pub goes : ℕ → Progress → Own → Progress
goes size p (begun household key owner) = reached (record { household = household; key = key; stage = first_stage false owner size key })
goes size unstarted (replied r held) = unstarted
goes size (reached l) (replied r held) = reached (at l (turn false size (slot_of l.key) held l.stage r).stage)

unfoldable pub comes_to : ℕ → List Own → Progress
comes_to size [] = unstarted
comes_to size (o ∷ os) = goes size (comes_to size os) o

unfoldable pub alone : ℕ → List Own → List Progress
alone size [] = []
alone size (o ∷ os) = comes_to size (o ∷ os) ∷ alone size os

-- with a map of the right length, a lookup's answers depend only on its own household and key, the roster's size, the replies to
-- it and the cached entry of its own slot, its owner at the start and its epoch at each MOVED, whatever other lookups there are
abbrev pub DependsOnlyOn : Type 0
DependsOnlyOn = (size : ℕ) (map : Map) → wrong_length map ≡ false → (i : ℕ) (run : List Event)
    → answers size map i run ≡ alone size (own size map i run)

-- ---- two runs

-- for some of the slots, and some of the lookups by their numbers:
module _ (slots these : ℕ → Bool) where
  -- a lookup that starts is on one of the slots exactly if it is one of these
  abbrev pub Matches : ℕ → Happening → Type 0
  Matches i (starts household key) = slots (slot_of key) ≡ these i
  Matches i (hears r) = Unit {0}

  -- every lookup of a run
  abbrev pub Apart : List Event → Type 0
  Apart [] = Unit {0}
  Apart (e ∷ es) = Matches e.lookup e.what × Apart es

-- the events of these lookups
unfoldable pub events_of : (ℕ → Bool) → List Event → List Event
events_of these [] = []
events_of these (e ∷ es) = cond (these e.lookup) (e ∷ events_of these es) (events_of these es)

-- two runs that differ in other lookups, on other slots, of whichever households and however many
pub record SameFor (slots these : ℕ → Bool) (map_a : Map) (run_a : List Event) (map_b : Map) (run_b : List Event) : Type 0 where
  -- maps of the right length
  pub length_a : wrong_length map_a ≡ false
  pub length_b : wrong_length map_b ≡ false
  -- with the same cached entries of these slots
  pub entries : (s : ℕ) → slots s ≡ true → entry_at map_a s ≡ entry_at map_b s
  -- on which these lookups are, and no others
  pub apart_a : Apart slots these run_a
  pub apart_b : Apart slots these run_b
  -- with the same households, keys and replies
  pub events : events_of these run_a ≡ events_of these run_b

-- give each of these lookups the same answers, one after each of its events
abbrev pub SameAnswers : Type 0
SameAnswers = (size : ℕ) (slots these : ℕ → Bool) (map_a map_b : Map) (run_a run_b : List Event)
    → SameFor slots these map_a run_a map_b run_b
    → (i : ℕ) → these i ≡ true → answers size map_a i run_a ≡ answers size map_b i run_b

-- one number alone
abbrev pub just : ℕ → ℕ → Bool
just n k = eqb k n

-- for one lookup, the only one on its slot: two runs that differ in other households' lookups on other slots give it the same
-- answers
abbrev pub OneLookup : Type 0
OneLookup = (size : ℕ) (map : Map) (i s : ℕ) (run_a run_b : List Event)
    → wrong_length map ≡ false
    → Apart (just s) (just i) run_a
    → Apart (just s) (just i) run_b
    → events_of (just i) run_a ≡ events_of (just i) run_b
    → answers size map i run_a ≡ answers size map i run_b
