-- An ack by its cases, for any statement about the outcome.
use Rattle.std.specs.Prelude.{None, Option, Some}
use mathlib.Core.Path.{◌≡◌, refl, sym, ap, ◌∙◌}
use mathlib.Core.Bool.{Bool, true, false, cond}
use mathlib.Core.List.{List}
use Prim.Native.Nat.{ℕ}
use lib.Dec.{T}
use borrow.Author.Tests.{eqb-true, not-false}
use Rattle.nodesets.specs.NodeSets.{added, majority}
use Rattle.nodesets.specs.declared.NodeSet.{NodeSet}
use Rattle.answers.specs.declared.Answer.{Answer}
use Rattle.answers.specs.declared.Answer.TheVariants.{Done, NoElection}
use Rattle.answers.proofs.Checks.{refuses, test_for, past}
use Rattle.state.specs.Changes.{with_election}
use Rattle.state.specs.Outcomes.{answered, Slotted}
use Rattle.state.specs.declared.Node.{Node}
use Rattle.state.specs.declared.Election.{Election}
use Rattle.acks.specs.Acks.{ack_checks, won, counted, heard_in, acked}
use Rattle.state.specs.Node.{an_election}
use Rattle.acks.specs.Counts.{Hears}

module _ (n : Node) (slots : List ℕ) (voter candidate epoch : ℕ) where
  pub ack_cases : (P : Slotted → Type 0)
      → ((a : Answer) → T (refuses a) → P (record { outcome = answered n a; slots = slots }))
      → ((opened : ℕ) (voters heard : NodeSet) → Hears n voter candidate epoch opened voters heard → majority voters (added heard voter) ≡ false → P (record { outcome = answered (with_election (an_election epoch opened voters (added heard voter)) n) Done; slots = slots }))
      → ((opened : ℕ) (voters heard : NodeSet) → Hears n voter candidate epoch opened voters heard → majority voters (added heard voter) ≡ true → P (won n slots epoch))
      → P (acked n slots voter candidate epoch)
  unfolding acked
  ack_cases P refused counts wins = go n.election refl
    where
      last : (running opened : ℕ) (voters heard : NodeSet) → n.election ≡ an_election running opened voters heard → ((a : ℕ) → test_for a (ack_checks n voter candidate epoch running opened voters heard) ≡ false)
          → P (counted n slots running opened voters (added heard voter))
      last running opened voters heard e p =
          let q : epoch ≡ running = eqb-true epoch running (not-false _ (p 33)) in
          let h : Hears n voter candidate epoch opened voters heard = record { running = e ∙ ap (λ (x : ℕ). an_election x opened voters heard) (sym q); mine = eqb-true _ _ (not-false _ (p 32)); voter_in = not-false _ (p 34); in_time = p 35; first = p 36 } in
          rw (← q) (by (majority voters (added heard voter)) refl h)
        where
          by : (t : Bool) → majority voters (added heard voter) ≡ t → Hears n voter candidate epoch opened voters heard → P (cond t (won n slots epoch) (record { outcome = answered (with_election (an_election epoch opened voters (added heard voter)) n) Done; slots = slots }))
          by true m h = wins opened voters heard h m
          by false m h = counts opened voters heard h m

      go : (x : Option Election) → n.election ≡ x → P (heard_in n slots voter candidate epoch x)
      go None e = refused NoElection tt
      go (Some x) e =
          past P refuses (λ (a : Answer). record { outcome = answered n a; slots = slots }) (ack_checks n voter candidate epoch x.epoch x.opened x.voters x.heard) _ refl
          (λ a t. refused a (rw t tt)) (last x.epoch x.opened x.voters x.heard e)
