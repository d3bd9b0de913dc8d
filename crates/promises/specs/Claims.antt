-- What a heartbeat's claims come to, against the node and the slot table before it: document 01, "Heartbeat".
use Rattle.std.specs.Prelude.{Bool, not, cond, List, [], ◌∷◌, ℕ, eqb, ltb}
use Rattle.tables.specs.Checks.{all_of, any_of}
use Rattle.tables.specs.Lists.{map_at}
use Rattle.tables.specs.Sets.{claimed}
use Rattle.state.specs.Node.{record_at, is_master, listed}
use Rattle.state.specs.declared.Node.{Node}
use Rattle.state.specs.declared.Role.{Role}

-- by what the frame says: its bitmap, sender and role, and its own configEpoch
module _ (n : Node) (bitmap : List ℕ) (sender : ℕ) (role : Role) (config : ℕ) where
  -- a replica's bitmap claims nothing
  abbrev pub claims : ℕ → Bool
  claims s = all_of (is_master role ∷ claimed bitmap s ∷ [])

  -- the owner of an entry is another than the sender
  abbrev pub is_anothers : ℕ → Bool
  is_anothers owner = all_of (listed n owner ∷ not (eqb owner sender) ∷ [])

  -- a claimed slot goes to the sender if it is unowned, or owned by another whose known configEpoch is less than the frame's
  abbrev pub goes : ℕ → ℕ → Bool
  goes s owner = all_of (claims s ∷ any_of (not (listed n owner) ∷ all_of (is_anothers owner ∷ ltb (record_at n owner).config config ∷ []) ∷ []) ∷ [])

  -- the sender is stale at a claimed slot whose owner is another with a configEpoch greater than the frame's
  abbrev pub stale_at : ℕ → ℕ → Bool
  stale_at s owner = all_of (claims s ∷ is_anothers owner ∷ ltb config (record_at n owner).config ∷ [])

  -- the slot table after it: the slots that go are the sender's, the rest stay
  abbrev pub slots_after : List ℕ → List ℕ
  slots_after slots = map_at (λ s owner. cond (goes s owner) sender owner) slots
