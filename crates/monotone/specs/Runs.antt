-- Calls on one node, one after the other, each given the state and the tables as the last one left them: document 02, [14]. The
-- calls themselves are node's (`Calls`).
use Rattle.std.specs.Prelude.{ℕ, List, [], ◌∷◌}
use Rattle.state.specs.declared.Node.{Node}
use Rattle.fresh.specs.Fresh.{fresh_node}
use Rattle.node.specs.Calls.{Tables, Call, outcome, tables_after}
use Rattle.safety.specs.Demand3.{Roster}

-- a node's state, and the two tables that are lent with it
pub record World : Type 0 where
  pub node : Node
  pub tables : Tables

-- what a call leaves
abbrev pub Step : Type 0
Step = World → Call → World

-- by the promises of the functions
abbrev pub after : Step
after w c = record { node = (outcome w.node w.tables c).node; tables = tables_after w.node w.tables c }

-- a list of calls has the latest first; they are any, and none restores a state
abbrev pub run : Step → World → List Call → World
run step w [] = w
run step w (c ∷ cs) = step (run step w cs) c

-- a fresh node of any roster, number and timeout, with any tables
abbrev pub fresh : Roster → ℕ → ℕ → Tables → World
fresh r me timeout t = record { node = fresh_node r.ids r.roles r.size me timeout; tables = t }
