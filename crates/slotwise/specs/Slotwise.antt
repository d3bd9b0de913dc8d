-- A heartbeat past the refusals once more, clock and currentEpoch already risen: document 01, "Heartbeat", sentence by sentence,
-- and one slot after the other. It is the plain engine's own definition: of the fast engine's (heartbeats, ownership) it uses nothing.
use Rattle.std.specs.Prelude.{ℕ, zero, suc, ◌+◌, ◌/◌, ◌%◌, ◌^◌, Bool, not, cond, List, [], ◌∷◌, eqb, ltb, length, get_or, set, None, Option, Some}
use Rattle.tables.specs.Sizes.{top}
use Rattle.tables.specs.Checks.{all_of}
use Rattle.answers.specs.declared.Tally.{Tally}
use Rattle.answers.specs.declared.Answer.TheVariants.{Heard}
use Rattle.state.specs.Node.{listed, record_at, master_at}
use Rattle.state.specs.Changes.{with_role, with_config, with_current, on_record}
use Rattle.state.specs.Outcomes.{Slotted, answered}
use Rattle.state.specs.declared.Node.{Node}
use Rattle.state.specs.declared.Role.{Role}
use Rattle.state.specs.declared.Role.TheVariants.{Master, Replica}

-- ---- the sender

-- its role becomes the frame's
abbrev pub role_said : ℕ → Role → Node → Node
role_said sender role n = on_record sender (with_role role) n

-- a master's known configEpoch rises to the frame's if that is greater
abbrev pub raised : ℕ → ℕ → Node → Node
raised sender config n = cond (ltb (record_at n sender).config config) (on_record sender (with_config config) n) n

-- ---- the claims

-- slot s is claimed: bit s mod 8, least first, of bitmap byte s / 8
abbrev pub is_claimed : List ℕ → ℕ → Bool
is_claimed bitmap s = eqb (get_or bitmap (s / 8) 0 / 2 ^ (s % 8) % 2) 1

-- what the claims have come to so far: slots newly bound, slots rebound and the lowest stale slot, and the table
pub record SoFar : Type 0 where
  pub tally : Tally
  pub slots : List ℕ

-- nothing counted, no slot named
abbrev pub nothing : Tally
nothing = record { bound = 0; rebound = 0; stale = None }

-- slot s, which was unowned, goes to the sender
abbrev pub binds : ℕ → ℕ → SoFar → SoFar
binds sender s w = record {
  tally = record { bound = w.tally.bound + 1; rebound = w.tally.rebound; stale = w.tally.stale };
  slots = set w.slots s sender;
}

-- slot s, which was another's, goes to the sender
abbrev pub rebinds : ℕ → ℕ → SoFar → SoFar
rebinds sender s w = record {
  tally = record { bound = w.tally.bound; rebound = w.tally.rebound + 1; stale = w.tally.stale };
  slots = set w.slots s sender;
}

-- slot s stays, and the sender is stale there: it is named if none was before
abbrev pub first_of : Option ℕ → ℕ → Option ℕ
first_of None s = Some s
first_of (Some t) s = Some t

abbrev pub finds_stale : ℕ → SoFar → SoFar
finds_stale s w = record {
  tally = record { bound = w.tally.bound; rebound = w.tally.rebound; stale = first_of w.tally.stale s };
  slots = w.slots;
}

module _ (n : Node) (sender config : ℕ) (bitmap : List ℕ) where
  -- slot s. Not claimed: it stays. Unowned: it goes to the sender. The sender's own: it stays. Another's whose known
  -- configEpoch is less than the frame's: it goes to the sender; greater: the sender is stale; equal: it stays
  unfoldable pub one_slot : ℕ → SoFar → SoFar
  one_slot s w =
      let owner = get_or w.slots s 0 in
      let known = (record_at n owner).config in
      cond (not (is_claimed bitmap s)) w
      (cond (not (listed n owner)) (binds sender s w)
      (cond (eqb owner sender) w
      (cond (ltb known config) (rebinds sender s w)
      (cond (ltb config known) (finds_stale s w)
      w))))

  -- the slots below k, one after the other from 0 on: the recursion stands here to be read
  unfoldable pub slots_below : ℕ → SoFar → SoFar
  slots_below zero w = w
  slots_below (suc k) w = one_slot k (slots_below k w)

  -- every slot of the table
  abbrev pub all_slots : List ℕ → SoFar
  all_slots slots = slots_below (length slots) (record { tally = nothing; slots = slots })

-- ---- the tie

-- this node and the sender are masters, the frame's configEpoch equals ours and our id is smaller (numbers order as ids do);
-- at the top no bump is made
abbrev pub tie_checks : ℕ → ℕ → Node → List Bool
tie_checks sender config n = master_at n n.me ∷ master_at n sender ∷ eqb config (record_at n n.me).config ∷ ltb n.me sender ∷ ltb n.current top ∷ []

-- currentEpoch goes up by 1 and becomes our configEpoch
abbrev pub bump : Node → Node
bump n = with_current (n.current + 1) (on_record n.me (with_config (n.current + 1)) n)

unfoldable pub after_tie : ℕ → ℕ → Node → Node
after_tie sender config n = cond (all_of (tie_checks sender config n)) (bump n) n

-- ---- the heartbeat: a replica's bitmap claims nothing, and last is the tie

unfoldable pub plain_heartbeat : Node → List ℕ → List ℕ → ℕ → Role → ℕ → Slotted
plain_heartbeat n slots bitmap sender (Replica m) config = record {
  outcome = answered (role_said sender (Replica m) n) (Heard nothing);
  slots = slots;
}
plain_heartbeat n slots bitmap sender Master config =
    let heard = raised sender config (role_said sender Master n) in
    let claims = all_slots heard sender config bitmap slots in
    record { outcome = answered (after_tie sender config heard) (Heard claims.tally); slots = claims.slots }
