-- A fresh node of a roster, fresh tables, and the ids of a numbered roster.
use Rattle.std.specs.Prelude.{ℕ, List, map, replicate, length, set, None}
use Rattle.tables.specs.Below.{in_turn}
use Rattle.tables.specs.Sizes.{node_room, mark_room, unowned}
use Rattle.state.specs.Node.{blank, no_mark}
use Rattle.state.specs.Changes.{with_role}
use Rattle.state.specs.declared.NodeId.{NodeId}
use Rattle.state.specs.declared.Node.{Node}
use Rattle.state.specs.declared.Record.{Record}
use Rattle.state.specs.declared.Role.{Role}

-- a node of which only the role is known: no epoch, no times, no flag
abbrev pub newcomer : Role → Record
newcomer role = with_role role blank

-- clock and epochs 0, no times, flags, marks or election
unfoldable pub fresh_node : List NodeId → List Role → ℕ → ℕ → ℕ → Node
fresh_node ids roles size me timeout = record { ids = ids; records = map newcomer roles; marks = replicate mark_room no_mark; size = size; me = me; marked = 0; current = 0; voted = 0; clock = 0; timeout = timeout; election = None }

-- all unowned; none reported
abbrev pub fresh_slots : List ℕ → List ℕ
fresh_slots slots = replicate (length slots) unowned

abbrev pub fresh_reports : List ℕ → List ℕ
fresh_reports reports = replicate (length reports) 0

-- the id of a number in a numbered roster: 19 zero bytes and the number, so that the ids ascend as the numbers do
abbrev pub id_of : ℕ → NodeId
id_of number = record { bytes = set (replicate 20 0) 19 number }

-- the ids of the first n numbers; the places past them are no part of a roster of n nodes
unfoldable pub ids_of : ℕ → List NodeId
ids_of n = in_turn (λ k ids. set ids k (id_of k)) n (replicate node_room (id_of 0))
