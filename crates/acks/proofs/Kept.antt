-- An ack keeps a sound state sound.
use mathlib.Core.Path.{◌≡◌, refl, sym, ap, ◌∙◌}
use mathlib.Core.Bool.{true}
use mathlib.Core.List.{List}
use Prim.Native.Nat.{ℕ}
use Rattle.nodesets.specs.NodeSets.{added}
use Rattle.nodesets.specs.declared.NodeSet.{NodeSet}
use Rattle.state.specs.Node.{record_at}
use Rattle.state.specs.Changes.{with_role}
use Rattle.state.specs.Outcomes.{Slotted}
use Rattle.state.specs.declared.Node.{Node}
use Rattle.state.specs.declared.Role.TheVariants.{Master}
use Rattle.soundness.specs.Sound.{sound, election_sound, own_clear}
use Rattle.soundness.proofs.Facts.{record_is_sound, own_is_clear, election_is_sound, open_epoch}
use Rattle.soundness.proofs.Kept.{config_kept, role_kept, heard_election, election_sound_lem, closing_sound}
use Rattle.acks.specs.Acks.{winner, promoted, acked}
use Rattle.acks.specs.Counts.{Hears}
use Rattle.state.specs.Node.{an_election}
use Rattle.acks.proofs.Steps.{ack_cases}

module _ (n : Node) (voter candidate epoch opened : ℕ) (voters heard : NodeSet) (s : sound n ≡ true) (h : Hears n voter candidate epoch opened voters heard) where
  pub running_sound : election_sound n (an_election epoch opened voters heard) ≡ true
  running_sound = ap (election_sound n) (sym h.running) ∙ election_is_sound n s

  promoted_sound : sound (promoted epoch n) ≡ true
  unfolding promoted own_clear
  promoted_sound =
      let r = record_at n n.me in
      closing_sound n s n.me (winner epoch r)
      (λ l. config_kept n.size n.clock n.current n.me (with_role Master r) (role_kept n.size n.clock n.current n.me r (record_is_sound n s n.me l) Master refl) epoch (open_epoch n epoch opened voters heard running_sound))
      (λ e. own_is_clear n s)

pub ack_sound : (n : Node) (slots : List ℕ) (voter candidate epoch : ℕ) → sound n ≡ true → sound (acked n slots voter candidate epoch).outcome.node ≡ true
ack_sound n slots voter candidate epoch s =
    ack_cases n slots voter candidate epoch (λ (o : Slotted). sound o.outcome.node ≡ true) (λ a t. s)
    (λ o v k h m. election_sound_lem n s (an_election epoch o v (added k voter)) (heard_election n epoch o v k voter (running_sound n voter candidate epoch o v k s h) h.voter_in))
    (λ o v k h m. promoted_sound n voter candidate epoch o v k s h)
