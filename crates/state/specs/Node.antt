-- Reading a node: its arrays by place, and the words for roles and flags.
use Rattle.std.specs.Prelude.{ℕ, Bool, true, false, cond, List, [], ◌∷◌, ltb, get_or, None, Option, Some}
use Rattle.tables.specs.Checks.{all_of}
use Rattle.tables.specs.Lists.{occurs}
use Rattle.nodesets.specs.NodeSets.{gathered}
use Rattle.nodesets.specs.declared.NodeSet.{NodeSet}
use Rattle.state.specs.declared.NodeId.{NodeId}
use Rattle.state.specs.declared.Node.{Node}
use Rattle.state.specs.declared.Record.{Record}
use Rattle.state.specs.declared.Mark.{Mark}
use Rattle.state.specs.declared.Role.{Role}
use Rattle.state.specs.declared.Role.TheVariants.{Master, Replica}
use Rattle.state.specs.declared.Flag.{Flag}
use Rattle.state.specs.declared.Flag.TheVariants.{Clear, Pfail, Fail}
use Rattle.state.specs.declared.Move.{Move}
use Rattle.state.specs.declared.Move.TheVariants.{Migrating, Importing}
use Rattle.state.specs.declared.Election.{Election}

-- what reading past the end of an array gives; no rule reads there
abbrev pub no_id : NodeId
no_id = record { bytes = [] }

abbrev pub blank : Record
blank = record { role = Master; config = 0; ping = None; flag = Clear; vote = None }

abbrev pub no_mark : Mark
no_mark = record { slot = 0; movement = Migrating 0 }

-- an election that is open: its epoch, when it opened, who may vote and whose acks were heard
abbrev pub an_election : ℕ → ℕ → NodeSet → NodeSet → Option Election
an_election epoch opened voters heard = Some (record { epoch = epoch; opened = opened; voters = voters; heard = heard })

abbrev pub id_at : Node → ℕ → NodeId
id_at n k = get_or n.ids k no_id

abbrev pub record_at : Node → ℕ → Record
record_at n k = get_or n.records k blank

abbrev pub mark_at : Node → ℕ → Mark
mark_at n k = get_or n.marks k no_mark

abbrev pub is_master : Role → Bool
is_master Master = true
is_master (Replica m) = false

abbrev pub is_fail : Flag → Bool
is_fail Clear = false
is_fail Pfail = false
is_fail (Fail t) = true

abbrev pub is_pfail : Flag → Bool
is_pfail Clear = false
is_pfail Pfail = true
is_pfail (Fail t) = false

abbrev pub is_clear : Flag → Bool
is_clear Clear = true
is_clear Pfail = false
is_clear (Fail t) = false

-- a number of the roster
abbrev pub listed : Node → ℕ → Bool
listed n k = ltb k n.size

-- a node of the roster that is recorded as a master now
abbrev pub master_at : Node → ℕ → Bool
master_at n k = cond (listed n k) (is_master (record_at n k).role) false

-- the masters listed now, as a set
abbrev pub masters : Node → NodeSet
masters n = gathered (master_at n)

-- the role of a number; a number outside the roster is nobody's replica
abbrev pub role_at : Node → ℕ → Role
role_at n k = cond (listed n k) (record_at n k).role Master

-- whom a replica follows; of a master no rule asks it
abbrev pub followed : Role → ℕ
followed Master = 0
followed (Replica m) = m

abbrev pub peer_of : Move → ℕ
peer_of (Migrating p) = p
peer_of (Importing p) = p

-- node k owns some slot of the table
abbrev pub owns : List ℕ → ℕ → Bool
owns slots k = occurs slots k

-- a voting master (document 02, [3]): a node of the roster that is recorded as a master now and owns some slot of the table lent
abbrev pub voting_master : Node → List ℕ → ℕ → Bool
voting_master n slots k = all_of (master_at n k ∷ owns slots k ∷ [])

-- the voting masters, as a set; their number is its count
abbrev pub voting_masters : Node → List ℕ → NodeSet
voting_masters n slots = gathered (voting_master n slots)
