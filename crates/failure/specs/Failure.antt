-- Who signals a node, and the look at one node: document 01, "Report, fail", and document 02, [3]. Each definition takes the node
-- as it is past the refusals: "now" is its clock, T its timeout, s is the subject's number, and voters are the voting masters.
use Rattle.std.specs.Prelude.{ℕ, ◌+◌, ◌*◌, ◌-◌, Bool, cond, not, List, [], ◌∷◌, eqb, ltb, leb, get_or}
use Rattle.tables.specs.Sizes.{node_room, time_end}
use Rattle.tables.specs.Checks.{all_of, any_of}
use Rattle.ages.specs.Ages.{age, over_twice}
use Rattle.nodesets.specs.NodeSets.{has, added, majority, gathered}
use Rattle.nodesets.specs.declared.NodeSet.{NodeSet}
use Rattle.state.specs.Node.{is_master, is_pfail, listed}
use Rattle.state.specs.Changes.{with_flag, on_record}
use Rattle.state.specs.declared.Node.{Node}
use Rattle.state.specs.declared.Role.{Role}
use Rattle.state.specs.declared.Flag.{Flag}
use Rattle.state.specs.declared.Flag.TheVariants.{Fail}

-- where the report about a subject by a reporter stands: 64 x subject + reporter
abbrev pub report_at : ℕ → ℕ → ℕ
report_at subject reporter = node_room * subject + reporter

-- a report is stored as its time plus one, 0 for none; what is no time is stored as none
abbrev pub stamp : ℕ → ℕ
stamp t = cond (ltb t time_end) (t + 1) 0

-- a stored report that signals: there is one, its time is not later than now and at most 2T old
unfoldable pub recent : Node → ℕ → Bool
recent n stored =
    let t = stored - 1 in
    all_of (not (eqb stored 0) ∷ leb t n.clock ∷ not (over_twice n.timeout (age n.clock t)) ∷ [])

-- a set of masters with node k, if its role is a master's
abbrev pub with_master : NodeSet → ℕ → Role → NodeSet
with_master masters k role = cond (is_master role) (added masters k) masters

-- does node k of the roster, one of the voting masters, signal s: this node does, and each other but the subject by a recent report
unfoldable pub signals : Node → NodeSet → List ℕ → ℕ → ℕ → Bool
signals n voters reports s k =
    all_of (listed n k ∷ has voters k ∷ any_of (eqb k n.me ∷ all_of (not (eqb k s) ∷ recent n (get_or reports (report_at s k) 0) ∷ []) ∷ []) ∷ [])

abbrev pub signallers : Node → NodeSet → List ℕ → ℕ → NodeSet
signallers n voters reports s = gathered (signals n voters reports s)

-- more than half of the voting masters signal s
unfoldable pub most_signal : Node → NodeSet → List ℕ → ℕ → Bool
most_signal n voters reports s = majority voters (signallers n voters reports s)

-- the flag of s after the look: PFAIL becomes FAIL, from now on, if more than half of the voting masters signal s
unfoldable pub flag_if_signalled : Node → NodeSet → List ℕ → ℕ → Flag → Flag
flag_if_signalled n voters reports s f = cond (all_of (is_pfail f ∷ most_signal n voters reports s ∷ [])) (Fail n.clock) f

-- the look at node s: its flag alone may change
unfoldable pub looked_at : NodeSet → List ℕ → ℕ → Node → Node
looked_at voters reports s n = on_record s (λ r. with_flag (flag_if_signalled n voters reports s r.flag) r) n
