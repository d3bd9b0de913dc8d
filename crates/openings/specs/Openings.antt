-- An election opened: document 01, "Election", its first paragraph, and document 02, [3]. Past the refusals now is the clock.
use Rattle.std.specs.Prelude.{ℕ, ◌+◌, Bool, false, not, List, [], ◌∷◌, ◌++◌, eqb, ltb, leb, length, None, Option, Some}
use Rattle.tables.specs.Checks.{checked}
use Rattle.tables.specs.Sizes.{slot_count, top, time_end}
use Rattle.ages.specs.Ages.{age, opening_young}
use Rattle.nodesets.specs.NodeSets.{none}
use Rattle.answers.specs.declared.Answer.{Answer}
use Rattle.answers.specs.declared.Answer.TheVariants.{Done, BeforeClock, OutOfBounds, AtTheTop, NotReplica, OwnMasterNotFailed, OwnMasterEmpty, ElectionYoung}
use Rattle.state.specs.Node.{record_at, is_master, is_fail, role_at, followed, owns, voting_masters}
use Rattle.state.specs.Changes.{with_current, with_clock, with_election}
use Rattle.state.specs.Outcomes.{answered}
use Rattle.state.specs.declared.Node.{Node}
use Rattle.state.specs.declared.Role.{Role}
use Rattle.state.specs.declared.Election.{Election}
use Rattle.state.specs.declared.Outcome.{Outcome}
use Rattle.state.specs.Node.{an_election}
use Rattle.entry.specs.Entry.{entry_checks}

-- 28: an election is open, and its opening is too young
abbrev pub young : Node → Option Election → Bool
young n None = false
young n (Some e) = opening_young n.timeout (age n.clock e.opened)

-- 24, 25, 26, 28 and 9, for a node of that role
abbrev pub open_checks : Node → List ℕ → Role → List (Bool × Answer)
open_checks n slots role =
    (is_master role, NotReplica)
    ∷ (not (is_fail (record_at n (followed role)).flag), OwnMasterNotFailed)
    ∷ (not (owns slots (followed role)), OwnMasterEmpty)
    ∷ (young n n.election, ElectionYoung)
    ∷ (leb top n.current, AtTheTop)
    ∷ []

-- it replaces any older one: currentEpoch goes up by 1 and is its epoch, its set is the voting masters by the table, none heard
unfoldable pub opening : Node → List ℕ → Node
opening n slots = with_election (an_election (n.current + 1) n.clock (voting_masters n slots) none) (with_current (n.current + 1) n)

-- past the refusals, with the clock moved
abbrev pub standing : Node → List ℕ → Outcome
standing n slots = checked (answered n) (open_checks n slots (role_at n n.me)) (answered (opening n slots) Done)

-- 5 and 4
abbrev pub time_checks : Node → ℕ → List (Bool × Answer)
time_checks n time = (leb time_end time, OutOfBounds) ∷ (ltb time n.clock, BeforeClock) ∷ []

-- after 1, 7, 5, 4, which change nothing
abbrev pub open_refusals : Node → List ℕ → ℕ → List (Bool × Answer)
open_refusals n slots time = entry_checks (eqb (length slots) slot_count) n ++ time_checks n time

unfoldable pub opens : Node → List ℕ → ℕ → Outcome
opens n slots time = checked (answered n) (open_refusals n slots time) (standing (with_clock time n) slots)
