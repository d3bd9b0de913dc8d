-- What of a node is part of its state, and when two nodes are in the same state.
use Rattle.std.specs.Prelude.{◌≡◌, List, ℕ, take, Option}
use Rattle.state.specs.declared.Node.{Node}
use Rattle.state.specs.declared.NodeId.{NodeId}
use Rattle.state.specs.declared.Record.{Record}
use Rattle.state.specs.declared.Mark.{Mark}
use Rattle.state.specs.declared.Election.{Election}

-- the arrays as far as the roster's size and the marks' count go, and the rest
pub record Held : Type 0 where
  pub ids : List NodeId
  pub records : List Record
  pub marks : List Mark
  pub me : ℕ
  pub current : ℕ
  pub voted : ℕ
  pub clock : ℕ
  pub timeout : ℕ
  pub election : Option Election
  pub size : ℕ
  pub marked : ℕ

abbrev pub held : Node → Held
held n = record { ids = take n.size n.ids; records = take n.size n.records; marks = take n.marked n.marks; me = n.me; current = n.current; voted = n.voted; clock = n.clock; timeout = n.timeout; election = n.election; size = n.size; marked = n.marked }

abbrev pub Same : Node → Node → Type 0
Same a b = held a ≡ held b
