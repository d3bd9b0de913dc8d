-- The nodes of a run: how one starts, what a roster's line makes of it, and what is told of it.
use Rattle.std.specs.Prelude.{ℕ, replicate}
use Rattle.tables.specs.Sizes.{node_room}
use Rattle.state.specs.Changes.{with_role, on_record}
use Rattle.state.specs.declared.Node.{Node}
use Rattle.state.specs.declared.Record.{Record}
use Rattle.state.specs.declared.Role.TheVariants.{Master, Replica}
use Rattle.state.specs.declared.Flag.{Flag}
use Rattle.state.specs.declared.Flag.TheVariants.{Clear, Pfail, Fail}
use Rattle.fresh.specs.Fresh.{fresh_node, ids_of}

-- node k of a numbered roster of masters, with T 1000
abbrev pub master : ℕ → ℕ → Node
master size k = fresh_node (ids_of node_room) (replicate node_room Master) size k 1000

-- node k is listed as a replica of m
abbrev pub follows : ℕ → ℕ → Node → Node
follows k m n = on_record k (with_role (Replica m)) n

-- another timeout
abbrev pub waits : ℕ → Node → Node
waits t n = record { ids = n.ids; records = n.records; marks = n.marks; size = n.size; me = n.me; marked = n.marked; current = n.current; voted = n.voted; clock = n.clock; timeout = t; election = n.election }

-- the flags' numbers, by which a flag is told from another
abbrev pub flag_number : Flag → ℕ
flag_number Clear = 0
flag_number Pfail = 1
flag_number (Fail t) = 2

abbrev pub flag_of : Record → ℕ
flag_of known = flag_number known.flag
