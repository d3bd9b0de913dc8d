-- Pings, pongs and time: document 01, "Probe, tick", and document 02, [3]. Each definition takes the node as it is past the
-- refusals: "now" is its clock, T its timeout, and s is the subject's number.
use Rattle.std.specs.Prelude.{ℕ, Bool, false, cond, not, List, [], ◌∷◌, eqb, ltb, None, Option, Some}
use Rattle.tables.specs.Checks.{all_of, any_of}
use Rattle.tables.specs.Below.{in_turn}
use Rattle.ages.specs.Ages.{age, over_twice}
use Rattle.nodesets.specs.declared.NodeSet.{NodeSet}
use Rattle.state.specs.Node.{record_at, is_master, is_clear, owns, voting_masters}
use Rattle.state.specs.Changes.{with_ping, with_flag, on_record}
use Rattle.state.specs.declared.Node.{Node}
use Rattle.state.specs.declared.Record.{Record}
use Rattle.state.specs.declared.Role.{Role}
use Rattle.state.specs.declared.Flag.{Flag}
use Rattle.state.specs.declared.Flag.TheVariants.{Clear, Pfail, Fail}
use Rattle.state.specs.declared.Echo.{Echo}
use Rattle.state.specs.declared.Echo.TheVariants.{Ping, Pong}
use Rattle.failure.specs.Failure.{flag_if_signalled, looked_at}

-- ---- Probe

-- ping sent: pending starts unless pending
abbrev pub started : ℕ → Option ℕ → Option ℕ
started now None = Some now
started now (Some t) = Some t

-- a pong clears FAIL, set at t, if the node is a replica, owns no slot, or FAIL is more than 2T old
unfoldable pub recovered : Node → List ℕ → ℕ → Role → ℕ → Bool
recovered n slots s role t =
    any_of (not (is_master role) ∷ not (owns slots s) ∷ over_twice n.timeout (age n.clock t) ∷ [])

-- the flag after a pong: PFAIL is cleared, and FAIL where it may be
unfoldable pub pong_flag : Node → List ℕ → ℕ → Role → Flag → Flag
pong_flag n slots s role Clear = Clear
pong_flag n slots s role Pfail = Clear
pong_flag n slots s role (Fail t) = cond (recovered n slots s role t) Clear (Fail t)

-- what is known of the subject after a probe; a pong clears pending too
unfoldable pub after_probe : Node → List ℕ → ℕ → Echo → Record → Record
after_probe n slots s Ping r = with_ping (started n.clock r.ping) r
after_probe n slots s Pong r = with_ping None (with_flag (pong_flag n slots s r.role r.flag) r)

unfoldable pub probed : Node → List ℕ → ℕ → Echo → Node
probed n slots s echo = on_record s (after_probe n slots s echo) n

-- ---- Tick

-- pending longer than T
abbrev pub overdue : ℕ → ℕ → Option ℕ → Bool
overdue now timeout None = false
overdue now timeout (Some t) = ltb timeout (age now t)

-- each node but this one, unflagged and pending longer than T, becomes PFAIL
unfoldable pub unanswered : Node → ℕ → Record → Bool
unanswered n k r = all_of (not (eqb k n.me) ∷ is_clear r.flag ∷ overdue n.clock n.timeout r.ping ∷ [])

unfoldable pub flag_if_unanswered : Node → ℕ → Record → Flag
flag_if_unanswered n k r = cond (unanswered n k r) Pfail r.flag

unfoldable pub suspected : ℕ → Node → Node
suspected k n = on_record k (λ r. with_flag (flag_if_unanswered n k r) r) n

-- the two for all nodes of the roster
unfoldable pub all_suspected : Node → Node
all_suspected n = in_turn suspected n.size n

unfoldable pub all_looked_at : NodeSet → List ℕ → Node → Node
all_looked_at voters reports n = in_turn (looked_at voters reports) n.size n

-- PFAIL of all first, then the look at all
unfoldable pub ticked : Node → List ℕ → List ℕ → Node
ticked n slots reports = all_looked_at (voting_masters n slots) reports (all_suspected n)

-- what that comes to for node k alone, whatever the order of the nodes: its flag after a tick
abbrev pub tick_flag : Node → List ℕ → List ℕ → ℕ → Flag
tick_flag n slots reports k = flag_if_signalled n (voting_masters n slots) reports k (flag_if_unanswered n k (record_at n k))
