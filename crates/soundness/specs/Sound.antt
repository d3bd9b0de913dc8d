-- When a state is sound: document 01, "The node and what it holds", the paragraph of the bounds, in its order.
use Rattle.std.specs.Prelude.{ℕ, ◌+◌, ◌-◌, Bool, true, false, cond, not, List, [], ◌∷◌, eqb, ltb, leb, length, None, Option, Some}
use Rattle.tables.specs.Checks.{all_of}
use Rattle.tables.specs.Below.{every}
use Rattle.tables.specs.Sizes.{slot_count, node_room, mark_room, top, time_end, least_timeout, most_timeout}
use Rattle.nodesets.specs.NodeSets.{within, below}
use Rattle.nodesets.specs.declared.NodeSet.{NodeSet}
use Rattle.state.specs.Node.{id_at, record_at, mark_at, is_master, is_clear, listed, peer_of}
use Rattle.state.specs.declared.Node.{Node}
use Rattle.state.specs.declared.Record.{Record}
use Rattle.state.specs.declared.Mark.{Mark}
use Rattle.state.specs.declared.Role.{Role}
use Rattle.state.specs.declared.Role.TheVariants.{Master, Replica}
use Rattle.state.specs.declared.Flag.{Flag}
use Rattle.state.specs.declared.Flag.TheVariants.{Clear, Pfail, Fail}
use Rattle.state.specs.declared.Election.{Election}

-- ---- the bounds and the counts

-- what the arrays' types say, said of lists: every value of the program passes
unfoldable pub arrays_whole : Node → Bool
arrays_whole n = all_of (eqb (length n.ids) node_room ∷ eqb (length n.records) node_room ∷ eqb (length n.marks) mark_room ∷ [])

-- T, times and epochs: every other time and epoch is bounded through the clock and currentEpoch, which none of them passes;
-- 1 to 64 nodes, at most 16 marks
abbrev pub bound_checks : Node → List Bool
bound_checks n =
    leb least_timeout n.timeout
    ∷ leb n.timeout most_timeout
    ∷ ltb n.clock time_end
    ∷ leb n.current top
    ∷ leb 1 n.size
    ∷ leb n.size node_room
    ∷ leb n.marked mark_room
    ∷ []

unfoldable pub bounds_kept : Node → Bool
bounds_kept n = all_of (bound_checks n)

-- ---- its ids ascend

-- byte strings in order: at the first place where they differ, the byte is less
unfoldable pub before : List ℕ → List ℕ → Bool
before [] s = false
before (a ∷ r) [] = false
before (a ∷ r) (b ∷ s) = cond (ltb a b) true (cond (ltb b a) false (before r s))

-- the id of number k stands before the next one's
abbrev pub id_in_order : Node → ℕ → Bool
id_in_order n k = before (id_at n k).bytes (id_at n (k + 1)).bytes

unfoldable pub ids_ascend : Node → Bool
ids_ascend n = every (n.size - 1) (id_in_order n)

-- ---- what is known of each node of the roster

-- the node that number k follows exists, and nobody follows itself
abbrev pub follow_sound : ℕ → ℕ → Role → Bool
follow_sound size k Master = true
follow_sound size k (Replica m) = all_of (ltb m size ∷ not (eqb m k) ∷ [])

-- no stored time passes the latest clock: a pending ping or a vote, and when FAIL was set
abbrev pub moment_sound : ℕ → Option ℕ → Bool
moment_sound clock None = true
moment_sound clock (Some t) = leb t clock

abbrev pub flag_sound : ℕ → Flag → Bool
flag_sound clock Clear = true
flag_sound clock Pfail = true
flag_sound clock (Fail t) = leb t clock

-- the record of number k, in a roster of this size, at this clock and this currentEpoch, which no configEpoch passes
abbrev pub record_checks : ℕ → ℕ → ℕ → ℕ → Record → List Bool
record_checks size clock current k r =
    follow_sound size k r.role
    ∷ moment_sound clock r.ping
    ∷ flag_sound clock r.flag
    ∷ moment_sound clock r.vote
    ∷ leb r.config current
    ∷ []

abbrev pub record_sound : ℕ → ℕ → ℕ → ℕ → Record → Bool
record_sound size clock current k r = all_of (record_checks size clock current k r)

abbrev pub record_sound_at : Node → ℕ → Bool
record_sound_at n k = record_sound n.size n.clock n.current k (record_at n k)

unfoldable pub records_sound : Node → Bool
records_sound n = every n.size (record_sound_at n)

-- ---- an open election

-- it belongs to a replica, its epoch is not above currentEpoch and its opening is not past the clock,
-- its set lies within the roster, the numbers below the size, and its heard acks within the set
abbrev pub election_checks : Node → ℕ → ℕ → NodeSet → NodeSet → List Bool
election_checks n epoch opened voters heard =
    not (is_master (record_at n n.me).role)
    ∷ leb epoch n.current
    ∷ leb opened n.clock
    ∷ below voters n.size
    ∷ within heard voters
    ∷ []

unfoldable pub election_sound : Node → Option Election → Bool
election_sound n None = true
election_sound n (Some e) = all_of (election_checks n e.epoch e.opened e.voters e.heard)

-- ---- marks

-- they stand in ascending order of different slots
abbrev pub slot_in_order : Node → ℕ → Bool
slot_in_order n k = ltb (mark_at n k).slot (mark_at n (k + 1)).slot

unfoldable pub marks_ascend : Node → Bool
marks_ascend n = every (n.marked - 1) (slot_in_order n)

-- a mark's slot is below 16,384, its peer exists, and no peer is this node
abbrev pub mark_sound : ℕ → ℕ → Mark → Bool
mark_sound size me m = all_of (ltb m.slot slot_count ∷ ltb (peer_of m.movement) size ∷ not (eqb (peer_of m.movement) me) ∷ [])

abbrev pub mark_sound_at : Node → ℕ → Bool
mark_sound_at n k = mark_sound n.size n.me (mark_at n k)

unfoldable pub marks_sound : Node → Bool
marks_sound n = every n.marked (mark_sound_at n)

-- ---- this node itself: no flag and no pending ping of its own

abbrev pub is_never : Option ℕ → Bool
is_never None = true
is_never (Some t) = false

unfoldable pub own_clear : Record → Bool
own_clear r = all_of (is_clear r.flag ∷ is_never r.ping ∷ [])

-- ---- sound

-- its bounds, ids, node numbers (this node's here, the others' with the records and the marks), records, lastVoteEpoch, election and marks
abbrev pub sound_checks : Node → List Bool
sound_checks n =
    arrays_whole n
    ∷ bounds_kept n
    ∷ ids_ascend n
    ∷ listed n n.me
    ∷ records_sound n
    ∷ leb n.voted n.current
    ∷ election_sound n n.election
    ∷ marks_ascend n
    ∷ marks_sound n
    ∷ own_clear (record_at n n.me)
    ∷ []

unfoldable pub sound : Node → Bool
sound n = all_of (sound_checks n)
