-- Document 01, "Node for the cases": the node that the program is.
use Rattle.std.specs.Prelude.{List, replicate, set}
use Rattle.tables.specs.Sizes.{node_room}
use Rattle.fresh.specs.Fresh.{id_of, fresh_node}
use Rattle.state.specs.declared.NodeId.{NodeId}
use Rattle.state.specs.declared.Node.{Node}
use Rattle.state.specs.declared.Role.{Role}
use Rattle.state.specs.declared.Role.TheVariants.{Master, Replica}

-- the ids of nodes 0 to 4; the places past the roster are no part of the node
abbrev pub ids : List NodeId
ids = set (set (set (set (replicate node_room (id_of 0)) 1 (id_of 1)) 2 (id_of 2)) 3 (id_of 3)) 4 (id_of 4)

-- 0, 1 and 2 masters, 3 and 4 replicas of 0
abbrev pub roles : List Role
roles = set (set (replicate node_room Master) 3 (Replica 0)) 4 (Replica 0)

-- five nodes, this one 1, T = 1000
unfoldable pub cases_node : Node
cases_node = fresh_node ids roles 5 1 1000
