-- A heartbeat past the refusals, clock and currentEpoch already risen: document 01, "Heartbeat", its steps in 01's order.
use Rattle.std.specs.Prelude.{ℕ, ◌+◌, Bool, cond, List, [], ◌∷◌, eqb, ltb, None}
use Rattle.tables.specs.Sizes.{top}
use Rattle.tables.specs.Checks.{all_of}
use Rattle.answers.specs.declared.Tally.{Tally}
use Rattle.answers.specs.declared.Answer.TheVariants.{Heard}
use Rattle.state.specs.Node.{record_at, master_at}
use Rattle.state.specs.Changes.{with_role, with_config, with_current, on_record, risen}
use Rattle.state.specs.Outcomes.{Slotted, answered}
use Rattle.state.specs.declared.Node.{Node}
use Rattle.state.specs.declared.Record.{Record}
use Rattle.state.specs.declared.Role.{Role}
use Rattle.state.specs.declared.Role.TheVariants.{Master, Replica}
use Rattle.ownership.specs.Claim.{Claimed, claimant, claim}
use Rattle.records.specs.Known.{known_configs}

-- what a frame says of its sender: the role becomes the frame's, and a master's known configEpoch rises to the frame's if
-- that is greater
abbrev pub heard_of : Role → ℕ → Record → Record
heard_of (Replica m) config r = with_role (Replica m) r
heard_of Master config r = with_config (risen r.config config) (with_role Master r)

unfoldable pub with_sender : ℕ → Role → ℕ → Node → Node
with_sender sender role config n = on_record sender (heard_of role config) n

-- a replica's bitmap claims nothing
abbrev pub no_claims : Tally
no_claims = record { bound = 0; rebound = 0; stale = None }

-- a master's claims on the table, with the frame's own configEpoch
abbrev pub claimed_by : ℕ → ℕ → List ℕ → Node → List ℕ → Claimed
claimed_by sender config bitmap n slots = claim (claimant (known_configs n.size n.records) n.size sender config) bitmap slots

-- a tie that this node gives way to: both are masters, the frame's configEpoch equals ours and our id is smaller (numbers
-- order as ids do); at the top no bump is made
abbrev pub tied : ℕ → ℕ → Node → List Bool
tied sender config n = master_at n n.me ∷ master_at n sender ∷ eqb config (record_at n n.me).config ∷ ltb n.me sender ∷ ltb n.current top ∷ []

-- currentEpoch goes up by 1 and becomes our configEpoch
abbrev pub with_new_epoch : Node → Node
with_new_epoch n = with_current (n.current + 1) (on_record n.me (with_config (n.current + 1)) n)

-- last, the tie: this node takes a new epoch, or nothing changes
unfoldable pub bumped : ℕ → ℕ → Node → Node
bumped sender config n = cond (all_of (tied sender config n)) (with_new_epoch n) n

-- a replica's frame says its role; a master's says its role and its configEpoch, claims, and may tie with this node
unfoldable pub heartbeat : Node → List ℕ → List ℕ → ℕ → Role → ℕ → Slotted
heartbeat n slots bitmap sender (Replica m) config = record {
  outcome = answered (with_sender sender (Replica m) config n) (Heard no_claims);
  slots = slots;
}
heartbeat n slots bitmap sender Master config =
    let heard = with_sender sender Master config n in
    let claimed = claimed_by sender config bitmap heard slots in
    record { outcome = answered (bumped sender config heard) (Heard claimed.tally); slots = claimed.slots }
