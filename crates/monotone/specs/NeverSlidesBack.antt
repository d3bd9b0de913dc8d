-- Ownership never slides back: document 02, [14]. Once a slot is owned, the known configEpoch of its owner never falls.
use Rattle.std.specs.Prelude.{◌≡◌, ◌⊎◌, List, ◌∷◌, ◌++◌, ℕ, ◌≤◌, ◌<◌}
use Rattle.tables.specs.Sizes.{slot_count}
use Rattle.state.specs.Node.{record_at}
use Rattle.marks.specs.Marks.{owner_at}
use Rattle.node.specs.Calls.{Tables, Call}
use Rattle.safety.specs.Demand3.{Roster}
use Rattle.monotone.specs.Runs.{World, Step, after, run, fresh}

-- ---- the words

-- the known configEpoch of a number
abbrev pub epoch_of : World → ℕ → ℕ
epoch_of w k = (record_at w.node k).config

-- a slot's entry; the slot is owned if that is a number of the roster
abbrev pub owner : World → ℕ → ℕ
owner w s = owner_at w.tables.slots s

abbrev pub Owned : World → ℕ → Type 0
Owned w s = owner w s < w.node.size

-- the known configEpoch of its owner
abbrev pub owners_epoch : World → ℕ → ℕ
owners_epoch w s = epoch_of w (owner w s)

-- ---- one call

-- the slot passes to another one of the roster, whose known configEpoch is then above the one that the old owner had
pub record PassesUp (a b : World) (s : ℕ) : Type 0 where
  pub another : owner b s ≡ owner a s → ⊥
  pub owned : Owned b s
  pub above : owners_epoch a s < owners_epoch b s

-- the law of one call, which makes b of a
pub record Onward (a b : World) : Type 0 where
  -- the roster is as large as it was
  pub size : b.node.size ≡ a.node.size
  -- no known configEpoch falls
  pub epochs : (k : ℕ) → epoch_of a k ≤ epoch_of b k
  -- the entry of an owned slot stays, or the slot passes up
  pub owners : (s : ℕ) → s < slot_count → Owned a s → (owner b s ≡ owner a s) ⊎ PassesUp a b s

-- ---- any sequence of calls

pub record StillOwned (before after : World) (s : ℕ) : Type 0 where
  pub owned : Owned after s
  pub not_lower : owners_epoch before s ≤ owners_epoch after s

-- from that start on, wherever the calls are cut in two
abbrev pub NeverSlidesBack : Step → World → Type 0
NeverSlidesBack step start =
    (later earlier : List Call) (s : ℕ) → s < slot_count → Owned (run step start earlier) s
    → StillOwned (run step start earlier) (run step start (later ++ earlier)) s

-- from a fresh node
pub record OwnershipNeverSlidesBack (r : Roster) (me timeout : ℕ) (t : Tables) : Type 0 where
  pub each_call : (cs : List Call) (c : Call) → Onward (run after (fresh r me timeout t) cs) (run after (fresh r me timeout t) (c ∷ cs))
  pub never : NeverSlidesBack after (fresh r me timeout t)
