-- Changes of a record and of a node, each with one thing changed and the rest kept.
use Rattle.std.specs.Prelude.{ℕ, cond, List, ltb, set, Option}
use Rattle.state.specs.Node.{record_at}
use Rattle.state.specs.declared.Node.{Node}
use Rattle.state.specs.declared.Record.{Record}
use Rattle.state.specs.declared.Mark.{Mark}
use Rattle.state.specs.declared.Role.{Role}
use Rattle.state.specs.declared.Flag.{Flag}
use Rattle.state.specs.declared.Election.{Election}

-- ---- one record

abbrev pub with_role : Role → Record → Record
with_role x r = record { role = x; config = r.config; ping = r.ping; flag = r.flag; vote = r.vote }

abbrev pub with_config : ℕ → Record → Record
with_config x r = record { role = r.role; config = x; ping = r.ping; flag = r.flag; vote = r.vote }

abbrev pub with_ping : Option ℕ → Record → Record
with_ping x r = record { role = r.role; config = r.config; ping = x; flag = r.flag; vote = r.vote }

abbrev pub with_flag : Flag → Record → Record
with_flag x r = record { role = r.role; config = r.config; ping = r.ping; flag = x; vote = r.vote }

abbrev pub with_vote : Option ℕ → Record → Record
with_vote x r = record { role = r.role; config = r.config; ping = r.ping; flag = r.flag; vote = x }

-- ---- the node

unfoldable pub with_records : List Record → Node → Node
with_records xs n = record { ids = n.ids; records = xs; marks = n.marks; size = n.size; me = n.me; marked = n.marked; current = n.current; voted = n.voted; clock = n.clock; timeout = n.timeout; election = n.election }

unfoldable pub with_marks : List Mark → ℕ → Node → Node
with_marks xs k n = record { ids = n.ids; records = n.records; marks = xs; size = n.size; me = n.me; marked = k; current = n.current; voted = n.voted; clock = n.clock; timeout = n.timeout; election = n.election }

unfoldable pub with_current : ℕ → Node → Node
with_current x n = record { ids = n.ids; records = n.records; marks = n.marks; size = n.size; me = n.me; marked = n.marked; current = x; voted = n.voted; clock = n.clock; timeout = n.timeout; election = n.election }

unfoldable pub with_voted : ℕ → Node → Node
with_voted x n = record { ids = n.ids; records = n.records; marks = n.marks; size = n.size; me = n.me; marked = n.marked; current = n.current; voted = x; clock = n.clock; timeout = n.timeout; election = n.election }

unfoldable pub with_clock : ℕ → Node → Node
with_clock x n = record { ids = n.ids; records = n.records; marks = n.marks; size = n.size; me = n.me; marked = n.marked; current = n.current; voted = n.voted; clock = x; timeout = n.timeout; election = n.election }

unfoldable pub with_election : Option Election → Node → Node
with_election x n = record { ids = n.ids; records = n.records; marks = n.marks; size = n.size; me = n.me; marked = n.marked; current = n.current; voted = n.voted; clock = n.clock; timeout = n.timeout; election = x }

-- one record of the node changed
abbrev pub with_record : ℕ → Record → Node → Node
with_record k x n = with_records (set n.records k x) n

abbrev pub on_record : ℕ → (Record → Record) → Node → Node
on_record k f n = with_record k (f (record_at n k)) n

-- an epoch that rises to another if that is greater
abbrev pub risen : ℕ → ℕ → ℕ
risen old new = cond (ltb old new) new old

-- past the refusals: the clock is the frame's time, and currentEpoch rises to the frame's epoch
abbrev pub arrived : ℕ → ℕ → Node → Node
arrived time epoch n = with_clock time (with_current (risen n.current epoch) n)
