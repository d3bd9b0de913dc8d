-- Runs of the gateway (02, [4] and [5]): lookups of any households, started and replied to in any order, over one cached map.
use Rattle.std.specs.Prelude.{ℕ, cond, List, [], ◌∷◌, eqb}
use Rattle.routing.specs.Replies.{Reply}
use Rattle.lookups.specs.declared.Key.{Key}
use Rattle.lookups.specs.declared.Lookup.{Lookup}
use Rattle.cache.specs.Cache.{Map}
use Rattle.gateway.specs.Gateway.{started, taken}

-- what happens to a lookup: it starts, for a household and a key, or a reply to it arrives
pub data Happening : Type 0 where
  starts : (household : ℕ) (key : Key) → Happening
  hears : Reply → Happening

-- to which: lookups have numbers, any; a number that starts again is a new lookup
pub record Event : Type 0 where
  pub lookup : ℕ
  pub what : Happening

-- how far a lookup has come: household, key, and how it stands
pub data Progress : Type 0 where
  unstarted : Progress
  reached : Lookup → Progress

-- the map, and each lookup by its number
pub record Gateway : Type 0 where
  pub map : Map
  pub lookups : ℕ → Progress

-- what becomes of the lookup, by the promises of `start` and `take`; a reply to one that never started goes nowhere
abbrev pub becomes : ℕ → Map → Progress → Happening → Progress
becomes size map p (starts household key) = reached (started map size household key)
becomes size map unstarted (hears r) = unstarted
becomes size map (reached l) (hears r) = reached (taken l map size r).lookup

-- and of the map
abbrev pub leaves : ℕ → Map → Progress → Happening → Map
leaves size map p (starts household key) = map
leaves size map unstarted (hears r) = map
leaves size map (reached l) (hears r) = (taken l map size r).map

abbrev pub step : ℕ → Gateway → Event → Gateway
step size g e = record {
  map = leaves size g.map (g.lookups e.lookup) e.what;
  lookups = λ (i : ℕ). cond (eqb e.lookup i) (becomes size g.map (g.lookups i) e.what) (g.lookups i);
}

-- A run lists its events, the latest first. With a roster of that size, from any map and no lookup:
module _ (size : ℕ) (map : Map) where
  -- the gateway after the run
  unfoldable pub after : List Event → Gateway
  after [] = record { map = map; lookups = λ (i : ℕ). unstarted }
  after (e ∷ es) = step size (after es) e

  -- what lookup i has come to after each of its own events, the latest first
  unfoldable pub answers : ℕ → List Event → List Progress
  answers i [] = []
  answers i (e ∷ es) = cond (eqb e.lookup i) ((after (e ∷ es)).lookups i ∷ answers i es) (answers i es)
