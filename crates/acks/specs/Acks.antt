-- An ack: document 01, "Election", its second paragraph. The clock and currentEpoch have moved.
use Rattle.std.specs.Prelude.{ℕ, Bool, not, cond, List, [], ◌∷◌, eqb, None, Option, Some}
use Rattle.tables.specs.Checks.{checked}
use Rattle.ages.specs.Ages.{age, ack_too_late}
use Rattle.nodesets.specs.NodeSets.{has, added, majority}
use Rattle.nodesets.specs.declared.NodeSet.{NodeSet}
use Rattle.answers.specs.declared.Answer.{Answer}
use Rattle.answers.specs.declared.Answer.TheVariants.{Done, NoElection, OtherCandidate, OtherEpoch, NoVoter, AckLate, AckRepeated}
use Rattle.state.specs.Changes.{with_election}
use Rattle.state.specs.Outcomes.{answered, Slotted}
use Rattle.state.specs.declared.Node.{Node}
use Rattle.state.specs.Node.{an_election}
use Rattle.state.specs.declared.Election.{Election}
pub use Rattle.wins.specs.Wins.{passing, winner, won}
unfoldable pub use Rattle.wins.specs.Wins.{promoted}

-- 32 to 36, for an open election
abbrev pub ack_checks : Node → ℕ → ℕ → ℕ → ℕ → ℕ → NodeSet → NodeSet → List (Bool × Answer)
ack_checks n voter candidate epoch running opened voters heard =
    (not (eqb candidate n.me), OtherCandidate)
    ∷ (not (eqb epoch running), OtherEpoch)
    ∷ (not (has voters voter), NoVoter)
    ∷ (ack_too_late n.timeout (age n.clock opened), AckLate)
    ∷ (has heard voter, AckRepeated)
    ∷ []

-- a voter more is heard: 30 when more than half of the set are, else 0
abbrev pub counted : Node → List ℕ → ℕ → ℕ → NodeSet → NodeSet → Slotted
counted n slots epoch opened voters heard =
    cond (majority voters heard) (won n slots epoch)
    (record { outcome = answered (with_election (an_election epoch opened voters heard) n) Done; slots = slots })

-- 31, and an ack in an open election
abbrev pub heard_in : Node → List ℕ → ℕ → ℕ → ℕ → Option Election → Slotted
heard_in n slots voter candidate epoch None = record { outcome = answered n NoElection; slots = slots }
heard_in n slots voter candidate epoch (Some e) =
    checked (λ a. record { outcome = answered n a; slots = slots }) (ack_checks n voter candidate epoch e.epoch e.opened e.voters e.heard)
    (counted n slots e.epoch e.opened e.voters (added e.heard voter))

unfoldable pub acked : Node → List ℕ → ℕ → ℕ → ℕ → Slotted
acked n slots voter candidate epoch = heard_in n slots voter candidate epoch n.election
