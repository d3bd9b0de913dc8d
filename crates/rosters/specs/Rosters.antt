-- A roster of any size for callers that time its frames: fresh, this node 1, T = 1000, nodes 3 and 4 replicas of 0 and the rest
-- masters, as in the cases; some nodes from 2 on are PFAIL.
use Rattle.std.specs.Prelude.{ℕ, ◌+◌, cond, ltb, Some}
use Rattle.tables.specs.Below.{in_turn}
use Rattle.tables.specs.Sizes.{node_room}
use Rattle.cases.specs.Cases.{roles}
use Rattle.state.specs.Changes.{with_ping, with_flag, on_record}
use Rattle.fresh.specs.Fresh.{ids_of, fresh_node}
use Rattle.state.specs.declared.Node.{Node}
use Rattle.state.specs.declared.Record.{Record}
use Rattle.state.specs.declared.Flag.TheVariants.{Pfail}

-- PFAIL, and the ping that was sent at time 0 is pending
abbrev pub silent : Record → Record
silent known = with_ping (Some 0) (with_flag Pfail known)

-- so many nodes from 2 on
abbrev pub silenced_next : ℕ → Node → Node
silenced_next k n = on_record (k + 2) silent n

unfoldable pub silenced : ℕ → Node → Node
silenced count n = in_turn silenced_next count n

-- there is room for 62 of them
abbrev pub room : ℕ → ℕ
room n = cond (ltb n 62) n 62

unfoldable pub roster : ℕ → ℕ → Node
roster size suspected = silenced (room suspected) (fresh_node (ids_of node_room) roles size 1 1000)
