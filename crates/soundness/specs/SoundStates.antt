-- Sound states: an open election's sets by their members; and nothing that is no part of the state counts.
use Rattle.std.specs.Prelude.{ℕ, ◌<◌, ◌≡◌, true}
use Rattle.tables.specs.Majorities.{Within}
use Rattle.nodesets.specs.NodeSets.{has}
use Rattle.nodesets.specs.declared.NodeSet.{NodeSet}
use Rattle.state.specs.Same.{Same}
use Rattle.state.specs.declared.Node.{Node}
use Rattle.state.specs.Node.{an_election}
use Rattle.soundness.specs.Sound.{sound, arrays_whole}

-- an election's sets
pub record ElectionSets (n : Node) (voters heard : NodeSet) : Type 0 where
  -- its set lies within the roster
  pub listed : (v : ℕ) → has voters v ≡ true → v < n.size
  -- its heard acks within the set
  pub heard_within : Within (has heard) (has voters)

-- the open election of a sound node
abbrev pub OpenElection : Node → Type 0
OpenElection n = sound n ≡ true → (epoch opened : ℕ) (voters heard : NodeSet) → n.election ≡ an_election epoch opened voters heard → ElectionSets n voters heard

-- of two nodes in the same state both are sound or neither; the arrays of both are whole, as in every node of the program
abbrev pub SameSound : Node → Node → Type 0
SameSound a b = arrays_whole a ≡ true → arrays_whole b ≡ true → Same a b → sound a ≡ sound b
