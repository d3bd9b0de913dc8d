-- Demand 3: one theorem about every list of calls on the nodes of a roster.
use Rattle.std.specs.Prelude.{◌≡◌, Bool, false, cond, List, [], ◌∷◌, ◌++◌, ℕ, ◌≤◌, eqb, ltb, get_or}
use Rattle.state.specs.Node.{is_master}
use Rattle.state.specs.declared.NodeId.{NodeId}
use Rattle.state.specs.declared.Node.{Node}
use Rattle.state.specs.declared.Role.{Role}
use Rattle.state.specs.declared.Role.TheVariants.{Master}
use Rattle.fresh.specs.Fresh.{fresh_node}
use Rattle.node.specs.Calls.{Tables, Call, outcome}
use Rattle.safety.specs.Deeds.{Deed, granted, Did, grants, NoneTwice, greatest, Counted, Won, voting_set}
use Rattle.safety.specs.Calls.{deed}

-- the ids, and who is master or replica of whom
pub record Roster : Type 0 where
  pub ids : List NodeId
  pub roles : List Role
  pub size : ℕ

-- is k a master by the roster
abbrev pub master_by : Roster → ℕ → Bool
master_by r k = cond (ltb k r.size) (is_master (get_or r.roles k Master)) false

-- the first proviso: both winning elections opened with the same set of voting masters
abbrev pub SameSet : Roster → ℕ → List Deed → ℕ → List Deed → Type 0
SameSet r a before_a b before_b = (k : ℕ) → voting_set (master_by r) a before_a k ≡ voting_set (master_by r) b before_b k

-- one entry of a list: the node that the call is made on, its arguments other than the state, and the tables lent, all of them
-- anything at all
pub record Made : Type 0 where
  pub on : ℕ
  pub call : Call
  pub lent : Tables

-- A list of calls has the latest first. A node starts fresh from the roster, with a timeout of its own, and each call gets
-- the state that the same node's last call left.
module _ (r : Roster) (timeouts : ℕ → ℕ) where
  abbrev pub state_of : List Made → ℕ → Node
  state_of [] v = fresh_node r.ids r.roles r.size v (timeouts v)
  state_of (m ∷ ms) v = cond (eqb m.on v) (outcome (state_of ms v) m.lent m.call).node (state_of ms v)

  -- what node v did, the latest first
  abbrev pub history : List Made → ℕ → List Deed
  history [] v = []
  history (m ∷ ms) v = cond (eqb m.on v) (deed (state_of ms v) m.lent m.call ∷ history ms v) (history ms v)

  -- the second proviso, for candidate a: the voter of each ack that it counted for that epoch granted that epoch to it
  abbrev pub AllGranted : List Made → ℕ → ℕ → Type 0
  AllGranted ms a e = (v : ℕ) → Counted v e (history ms a) → Did (granted e a) (history ms v)

pub record Demand3 (r : Roster) (timeouts : ℕ → ℕ) (ms : List Made) : Type 0 where
  -- each node has granted no epoch twice
  pub once : (v : ℕ) → NoneTwice (grants (history r timeouts ms v))
  -- its lastVoteEpoch has never fallen
  pub never_falls : (v : ℕ) (later earlier : List Made) → ms ≡ later ++ earlier → (state_of r timeouts earlier v).voted ≤ (state_of r timeouts ms v).voted
  -- and equals the greatest epoch it granted, or 0 if none
  pub is_greatest : (v : ℕ) → (state_of r timeouts ms v).voted ≡ greatest (grants (history r timeouts ms v))
  -- no two candidates have won the same epoch, provided both winning elections opened with the same set of voting masters,
  -- and the voter of each ack that either counted for that epoch granted that epoch to that candidate
  pub one_winner : (a b e : ℕ) (before_a before_b : List Deed)
      → Won e (history r timeouts ms a) before_a → Won e (history r timeouts ms b) before_b
      → SameSet r a before_a b before_b
      → AllGranted r timeouts ms a e
      → AllGranted r timeouts ms b e
      → a ≡ b
