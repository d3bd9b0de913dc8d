-- What an opening does to a node, and what holds of it put together.
use mathlib.Core.Path.{◌≡◌, refl, ap, ◌∙◌}
use mathlib.Core.Bool.{false, cond}
use mathlib.Core.List.{List}
use Prim.Native.Nat.{ℕ, ◌+◌, ◌≤◌, ◌<◌}
use native.Mathlib.Decide.{dec_lt}
use native.Mathlib.Omega.{arith}
use lib.Dec.{ltb}
use borrow.Author.Tests.{lt-ltb, le-ltb}
use Rattle.tables.specs.Sizes.{node_room}
use Rattle.nodesets.specs.NodeSets.{none, has}
use Rattle.nodesets.proofs.Members.{none_in, in_gathered}
use Rattle.answers.specs.declared.Answer.TheVariants.{Done}
use Rattle.state.specs.Node.{master_at, voting_master, voting_masters}
use Rattle.state.specs.Changes.{with_clock, with_current, with_election}
use Rattle.state.specs.declared.Node.{Node}
use Rattle.state.specs.declared.Outcome.{Outcome}
use Rattle.soundness.proofs.Facts.{few_nodes}
use Rattle.soundness.proofs.Keeps.{Keeps}
use Rattle.openings.specs.Openings.{opening, opens}
use Rattle.openings.specs.NewElection.{NewElection, OpeningLaws}
use Rattle.openings.proofs.Steps.{open_cases}
use Rattle.openings.proofs.Kept.{open_sound}

-- the set of the voting masters has them as its members
voting_members : (n : Node) (slots : List ℕ) → n.size ≤ node_room → (k : ℕ) → has (voting_masters n slots) k ≡ voting_master n slots k
voting_members n slots l k = in_gathered (voting_master n slots) k ∙ by (dec_lt k node_room)
  where
    by : Dec (k < node_room) → cond (ltb k node_room) (voting_master n slots k) false ≡ voting_master n slots k
    by (yes h) = rw (lt-ltb k node_room h)
    by (no f) = rw (le-ltb k node_room (omega arith), le-ltb k n.size (omega arith))

module _ (n : Node) (slots : List ℕ) (time : ℕ) where
  abbrev after : Node
  after = (opens n slots time).node

  pub opening_new : (opens n slots time).answer ≡ Done → NewElection slots n after
  unfolding opening with_election with_current with_clock
  opening_new =
      open_cases n slots time (λ (o : Outcome). o.answer ≡ Done → NewElection slots n o.node)
      (λ a t e. absurd (rw e at t)) (λ w a t e. absurd (rw e at t))
      (λ w p e. record {
        epoch = n.current + 1;
        opened = time;
        voters = voting_masters n slots;
        heard = none;
        election = refl;
        raised = refl;
        current = refl;
        since = refl;
        voting = voting_members n slots (few_nodes n w.sounds);
        unheard = none_in;
      })

  -- any other answer leaves all but the clock as it was
  refused_opening : ((opens n slots time).answer ≡ Done → ⊥) → after ≡ with_clock after.clock n
  unfolding with_clock
  refused_opening =
      open_cases n slots time (λ (o : Outcome). (o.answer ≡ Done → ⊥) → o.node ≡ with_clock o.node.clock n)
      (λ a t d. refl) (λ w a t d. refl) (λ w p d. absurd (d refl))

  -- none changes more than the clock, currentEpoch and the election
  opening_changes : after ≡ with_election after.election (with_current after.current (with_clock after.clock n))
  unfolding opening with_election with_current with_clock
  opening_changes =
      open_cases n slots time (λ (o : Outcome). o.node ≡ with_election o.node.election (with_current o.node.current (with_clock o.node.clock n)))
      (λ a t. refl) (λ w a t. refl) (λ w p. refl)

  pub opening_voted : after.voted ≡ n.voted
  unfolding with_election with_current with_clock
  opening_voted = ap (λ (b : Node). b.voted) opening_changes

  pub opening_keeps : Keeps n after
  unfolding with_election with_current with_clock
  opening_keeps = record { me = ap (λ (b : Node). b.me) opening_changes; size = ap (λ (b : Node). b.size) opening_changes; others = λ k d. ap (λ (b : Node). master_at b k) opening_changes }

pub opening_laws : (n : Node) (slots : List ℕ) (time : ℕ) → OpeningLaws n slots time
opening_laws n slots time = record {
  opened = opening_new n slots time;
  refused = refused_opening n slots time;
  rest = opening_changes n slots time;
  stays_sound = open_sound n slots time;
}
