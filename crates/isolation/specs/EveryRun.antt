-- What holds of every run (02, [4] and [5]), whatever slots its lookups are on.
use Rattle.std.specs.Prelude.{ℕ, ◌+◌, ◌≤◌, ◌≡◌, false, cond, List, [], ◌∷◌, eqb}
use Rattle.lookups.specs.declared.Key.{Key}
use Rattle.lookups.specs.declared.Stage.{Stage}
use Rattle.lookups.specs.declared.Stage.TheVariants.{Asking, Ended}
use Rattle.cache.specs.Cache.{Map, entry_at}
use Rattle.isolation.specs.Runs.{Event, Happening, starts, hears, Progress, unstarted, reached, after}
use Rattle.isolation.specs.Isolation.{just, Apart}

-- ---- household and key

pub data Pair : Type 0 where
  nothing : Pair
  pair : (household : ℕ) (key : Key) → Pair

-- the ones that a lookup carries
abbrev pub carried : Progress → Pair
carried unstarted = nothing
carried (reached l) = pair l.household l.key

-- the ones that lookup i started with, the last time that it started
abbrev pub comes : Happening → Pair → Pair
comes (starts household key) before = pair household key
comes (hears r) before = before

unfoldable pub came_in : ℕ → List Event → Pair
came_in i [] = nothing
came_in i (e ∷ es) = cond (eqb e.lookup i) (comes e.what (came_in i es)) (came_in i es)

-- ---- questions

-- a lookup that asks has one question to send
abbrev pub asks : Stage → ℕ
asks (Asking q) = 1
asks (Ended end) = 0

abbrev pub asks_now : Progress → ℕ
asks_now unstarted = 0
asks_now (reached l) = asks l.stage

-- how many lookup i asked since it last started
abbrev pub since_start : Happening → ℕ → ℕ → ℕ
since_start (starts household key) now before = now
since_start (hears r) now before = now + before

module _ (size : ℕ) (map : Map) where
  unfoldable pub questions : ℕ → List Event → ℕ
  questions i [] = 0
  questions i (e ∷ es) =
      cond (eqb e.lookup i) (since_start e.what (asks_now ((after size map (e ∷ es)).lookups i)) (questions i es)) (questions i es)

-- ---- every run

-- no lookup that starts in the run is on slot s
abbrev pub NoneOn : ℕ → List Event → Type 0
NoneOn s run = Apart (just s) (λ (i : ℕ). false) run

pub record EveryRun (size : ℕ) (map : Map) (run : List Event) : Type 0 where
  -- what comes out carries the household and the key that went in
  pub carries : (i : ℕ) → carried ((after size map run).lookups i) ≡ came_in i run
  -- a lookup asks at most five questions from its start on
  pub five : (i : ℕ) → questions size map i run ≤ 5
  -- the entry of a slot that no lookup is on stays
  pub untouched : (s : ℕ) → NoneOn s run → entry_at (after size map run).map s ≡ entry_at map s
