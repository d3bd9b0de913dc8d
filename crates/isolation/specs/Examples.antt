-- Computed runs (02, [4] and [5]): a lookup on the same slot shifts the first hop of another, and ends it as stale, and one on
-- another slot does neither; a chase that ends at the fifth redirection; an ASK; a stale node. The latest event comes first.
use Rattle.std.specs.Prelude.{ℕ, ◌≡◌, Bool, true, false, List, [], ◌∷◌, replicate, set}
use Rattle.tables.specs.Sizes.{unowned}
use Rattle.routing.specs.Replies.{Reply, serve, moved, ask}
use Rattle.lookups.specs.Keys.{key_room}
use Rattle.lookups.specs.declared.Key.{Key}
use Rattle.lookups.specs.declared.End.TheVariants.{Served, Bad, TooMany, Stale}
use Rattle.lookups.specs.declared.Stage.{Stage}
use Rattle.lookups.specs.declared.Stage.TheVariants.{Asking, Ended}
use Rattle.cache.specs.Cache.{Map, map_of, entry_at}
use Rattle.isolation.specs.Runs.{Event, starts, hears, Progress, reached, after, answers}

-- the empty key, on slot 0; the key of one byte 01, on slot 4129
abbrev pub empty_key : Key
empty_key = record { bytes = replicate key_room 0; length = 0 }

abbrev pub key_one : Key
key_one = record { bytes = set (replicate key_room 0) 0 1; length = 1 }

-- node 2 is cached as the owner of slot 0, at epoch 7; no other slot has an owner, whatever epoch stands beside it
abbrev pub cached : Map
cached = map_of (2 ∷ replicate 16383 unowned) (7 ∷ replicate 16383 9)

-- ---- events

abbrev pub begins : ℕ → ℕ → Key → Event
begins i household key = record { lookup = i; what = starts household key }

abbrev pub gets : ℕ → Reply → Event
gets i r = record { lookup = i; what = hears r }

-- ---- answers

-- of a household's lookup of a key
abbrev pub walk : ℕ → Key → List Stage → List Progress
walk household key [] = []
walk household key (stage ∷ stages) = reached (record { household = household; key = key; stage = stage }) ∷ walk household key stages

-- node k is asked next, with ASKING or not, after so many redirections
abbrev pub to : ℕ → Bool → ℕ → Stage
to k asking hops = Asking (record { node = k; asking = asking; hops = hops })

-- ---- two lookups

-- lookup 1, of household 11, goes its way while lookup 2, of household 22, is sent on to node 3 and is served there
abbrev pub beside : Key → ℕ → List Event
beside key s = gets 1 serve ∷ gets 2 serve ∷ begins 1 11 empty_key ∷ gets 2 (moved s 3 7) ∷ begins 2 22 key ∷ []

-- lookup 1 has started before lookup 2 is sent on
abbrev pub already : List Event
already = gets 1 serve ∷ gets 2 serve ∷ gets 2 (moved 0 3 7) ∷ begins 1 11 empty_key ∷ begins 2 22 empty_key ∷ []

-- lookup 2 is sent on to an owner of epoch 9, and then lookup 1 to one of epoch 8
abbrev pub meanwhile : Key → ℕ → List Event
meanwhile key s = gets 1 (moved 0 4 8) ∷ gets 2 (moved s 3 9) ∷ begins 1 11 empty_key ∷ begins 2 22 key ∷ []

-- ---- one lookup

-- two nodes that send it to each other; the fifth redirection is older than the entry too
abbrev pub chase : List Event
chase = gets 1 (moved 0 1 6) ∷ gets 1 (moved 0 2 7) ∷ gets 1 (moved 0 1 7) ∷ gets 1 (ask 0 2) ∷ gets 1 (moved 0 1 7) ∷ begins 1 11 empty_key ∷ []

-- a slot that is on the move
abbrev pub on_the_move : List Event
on_the_move = gets 1 serve ∷ gets 1 (ask 0 3) ∷ begins 1 11 empty_key ∷ []

-- a node sends it on to an owner of that epoch
abbrev pub sent_to : (named owner epoch : ℕ) → List Event
sent_to named owner epoch = gets 1 (moved named owner epoch) ∷ begins 1 11 empty_key ∷ []

-- ---- what comes of them, in a roster of five nodes

pub record Examples : Type 0 where
  -- on the same slot: the first hop is node 3, which lookup 2 was sent on to
  pub shifted : answers 5 cached 1 (beside empty_key 0) ≡ walk 11 empty_key (Ended (Served 3) ∷ to 3 false 0 ∷ [])
  -- on another slot it is node 2, as cached; lookup 2 has no owner cached, and starts with node 0
  pub not_shifted : answers 5 cached 1 (beside key_one 4129) ≡ walk 11 empty_key (Ended (Served 2) ∷ to 2 false 0 ∷ [])
  pub other : answers 5 cached 2 (beside key_one 4129) ≡ walk 22 key_one (Ended (Served 3) ∷ to 3 false 1 ∷ to 0 false 0 ∷ [])
  -- past its first hop a lookup goes on as it would, on the same slot too
  pub no_more : answers 5 cached 1 already ≡ walk 11 empty_key (Ended (Served 2) ∷ to 2 false 0 ∷ [])
  -- five questions, and no sixth
  pub chased : answers 5 cached 1 chase
      ≡ walk 11 empty_key (Ended TooMany ∷ to 2 false 4 ∷ to 1 false 3 ∷ to 2 true 2 ∷ to 1 false 1 ∷ to 2 false 0 ∷ [])
  -- the question after an ASK goes with ASKING, and the map stays
  pub with_asking_lem : answers 5 cached 1 on_the_move ≡ walk 11 empty_key (Ended (Served 3) ∷ to 3 true 1 ∷ to 2 false 0 ∷ [])
  pub stays : (after 5 cached on_the_move).map ≡ cached
  -- a stale node cannot send the router backwards: the stale MOVED ends the lookup, and the entry stays
  pub backwards : answers 5 cached 1 (sent_to 0 1 6) ≡ walk 11 empty_key (Ended Stale ∷ to 2 false 0 ∷ [])
  pub entry_stays : (after 5 cached (sent_to 0 1 6)).map ≡ cached
  -- an equal epoch is followed, and a greater one stands in the entry then
  pub equal : answers 5 cached 1 (sent_to 0 1 7) ≡ walk 11 empty_key (to 1 false 1 ∷ to 2 false 0 ∷ [])
  pub greater : entry_at (after 5 cached (sent_to 0 1 8)).map 0 ≡ record { owner = 1; epoch = 8 }
  -- a lower one that is bad ends it as bad
  pub bad : answers 5 cached 1 (sent_to 1 1 6) ≡ walk 11 empty_key (Ended Bad ∷ to 2 false 0 ∷ [])
  -- lookups on one slot end each other as stale, and on two they do not
  pub stale : answers 5 cached 1 (meanwhile empty_key 0) ≡ walk 11 empty_key (Ended Stale ∷ to 2 false 0 ∷ [])
  pub not_stale : answers 5 cached 1 (meanwhile key_one 4129) ≡ walk 11 empty_key (to 4 false 1 ∷ to 2 false 0 ∷ [])
