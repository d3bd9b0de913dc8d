-- What an ack does to a node, and what holds of it put together.
use Rattle.std.specs.Prelude.{None}
use mathlib.Core.Path.{◌≡◌, refl, ap, ◌∙◌}
use mathlib.Core.Bool.{true}
use mathlib.Core.List.{List, [], ◌∷◌}
use Prim.Native.Nat.{ℕ, zero, suc, ◌*◌}
use native.Mathlib.Omega.{arith}
use lib.ListN.{get_or, set}
use lib.Seq.{set-get_or, get_or-set_other}
use borrow.Author.Tests.{lt-ltb, ltb-true, ltb-false}
use Rattle.tables.specs.Lists.{changed_from}
use Rattle.tables.specs.Sizes.{node_room}
use Rattle.tables.specs.Majorities.{Majority}
use Rattle.nodesets.specs.NodeSets.{has, added, count, majority}
use Rattle.nodesets.specs.declared.NodeSet.{NodeSet}
use Rattle.nodesets.proofs.Members.{in_room_lem, in_added, added_fits, most_counted}
use Rattle.answers.specs.Answers.{number}
use Rattle.answers.specs.declared.Answer.TheVariants.{Done}
use Rattle.state.specs.Node.{blank, record_at, master_at, role_at}
use Rattle.state.specs.Changes.{with_record, with_records, with_election}
use Rattle.state.specs.Outcomes.{Slotted}
use Rattle.state.specs.declared.Node.{Node}
use Rattle.state.specs.declared.Record.{Record}
use Rattle.soundness.specs.Sound.{sound}
use Rattle.soundness.proofs.Facts.{me_listed, followed_listed, voters_fit, heard_fit}
use Rattle.soundness.proofs.Keeps.{Keeps}
use Rattle.wins.specs.Wins.{yields}
use Rattle.wins.proofs.Passing.{from_old_master, handed_over_changed}
use Rattle.acks.specs.Acks.{passing, winner, promoted, acked}
use Rattle.acks.specs.Counts.{Hears, Counts, GoesOn, Wins, AckLaws}
use Rattle.acks.proofs.Steps.{ack_cases}
use Rattle.acks.proofs.Kept.{running_sound, ack_sound}

-- what was stored at a place stands there again, stored once more
set_got : {A : Type 0} (l : List A) (i : ℕ) (a d : A) → set l i a ≡ set l i (get_or (set l i a) i d)
set_got [] i a d = refl
set_got (x ∷ l) zero a d = refl
set_got (x ∷ l) (suc i) a d = ap (λ (m : List _). x ∷ m) (set_got l i a d)

-- in a sound state nobody follows itself, so that who yields is another
pub yielded_by_another : (n : Node) (epoch : ℕ) → sound n ≡ true → (owner : ℕ) → yields n epoch owner ≡ true → owner ≡ n.me → ⊥
yielded_by_another n epoch s owner e =
    let own : (record_at n n.me).role ≡ role_at n n.me = rw (lt-ltb n.me n.size (me_listed n s)) in
    (followed_listed n s n.me owner (me_listed n s) (own ∙ (from_old_master n epoch owner e).0)).1

-- and those that pass are the entries that changed
pub passing_changed : (n : Node) (slots : List ℕ) (epoch : ℕ) → sound n ≡ true → (passing n slots epoch).count ≡ changed_from (λ owner. true) slots (passing n slots epoch).slots
passing_changed n slots epoch s =
    handed_over_changed (yields n epoch) n.me slots (yielded_by_another n epoch s)

module _ (n : Node) (slots : List ℕ) (voter candidate epoch : ℕ) where
  abbrev hearing : Slotted
  hearing = acked n slots voter candidate epoch

  abbrev counts : (opened : ℕ) (voters heard : NodeSet) → Hears n voter candidate epoch opened voters heard → Counts n voter candidate epoch
  counts opened voters heard h = record {
    opened = opened;
    voters = voters;
    heard = heard;
    after = added heard voter;
    hears = h;
    adds = λ k. in_added heard voter k (in_room_lem voters voter h.voter_in);
  }

  -- 0: counted, not more than half, and the election goes on
  goes_on : hearing.outcome.answer ≡ Done → GoesOn n slots voter candidate epoch hearing
  goes_on =
      ack_cases n slots voter candidate epoch (λ (o : Slotted). o.outcome.answer ≡ Done → GoesOn n slots voter candidate epoch o)
      (λ a t e. absurd (rw e at t))
      (λ o v h w m e. record { counts = counts o v h w; not_most = ltb-false (count v) (2 * count (added h voter)) m; node = refl; slots_kept = refl })
      (λ o v h w m e. let z : ◌≡◌ {A = ℕ} 0 1 = cc in absurd (omega arith))

  -- 30: counted, more than half, and the election is won
  wins : number hearing.outcome.answer ≡ 30 → Wins n slots voter candidate epoch hearing
  wins =
      ack_cases n slots voter candidate epoch (λ (o : Slotted). number o.outcome.answer ≡ 30 → Wins n slots voter candidate epoch o)
      (λ a t e. absurd (rw e at t))
      (λ o v h w m e. absurd (omega (arith, e)))
      (λ o v h w m e. record { counts = counts o v h w; most = ltb-true (count v) (2 * count (added h voter)) m; node = refl; slots_pass = refl; told = refl; changed = passing_changed n slots epoch })

  -- any other answer leaves node and table as they were
  refused_ack : (hearing.outcome.answer ≡ Done → ⊥) → (number hearing.outcome.answer ≡ 30 → ⊥) → (hearing.outcome.node ≡ n) × (hearing.slots ≡ slots)
  refused_ack =
      ack_cases n slots voter candidate epoch (λ (o : Slotted). (o.outcome.answer ≡ Done → ⊥) → (number o.outcome.answer ≡ 30 → ⊥) → (o.outcome.node ≡ n) × (o.slots ≡ slots))
      (λ a t d f. (refl, refl)) (λ o v h w m d f. absurd (d refl)) (λ o v h w m d f. absurd (f refl))

  -- none changes more than the election and this node's own record
  ack_changes : let b = hearing.outcome.node in b ≡ with_election b.election (with_record n.me (record_at b n.me) n)
  unfolding with_election with_records promoted
  ack_changes =
      let P : Slotted → Type 0 = λ o. let b = o.outcome.node in b ≡ with_election b.election (with_record n.me (record_at b n.me) n) in
      ack_cases n slots voter candidate epoch P
      (λ a t. rw (set-get_or n.records n.me blank)) (λ o v h w m. rw (set-get_or n.records n.me blank)) (λ o v h w m. ap (λ (rs : List Record). with_election None (with_records rs n)) (set_got n.records n.me (winner epoch (record_at n n.me)) blank))

  pub ack_keeps : Keeps n hearing.outcome.node
  unfolding with_election with_records
  ack_keeps = record {
    me = ap (λ (b : Node). b.me) ack_changes;
    size = ap (λ (b : Node). b.size) ack_changes;
    others = λ k d. ap (λ (b : Node). master_at b k) ack_changes ∙ rw (get_or-set_other n.records n.me k (record_at hearing.outcome.node n.me) blank d);
  }

-- the majority of a win, by members, in a sound state
pub won_most : (n : Node) (voter candidate epoch opened : ℕ) (voters heard : NodeSet) → sound n ≡ true → Hears n voter candidate epoch opened voters heard
    → majority voters (added heard voter) ≡ true → Majority node_room (has (added heard voter)) (has voters)
won_most n voter candidate epoch opened voters heard s h m =
    let x = running_sound n voter candidate epoch opened voters heard s h in
    most_counted voters (added heard voter) (voters_fit n epoch opened voters heard x) (added_fits heard voter (heard_fit n epoch opened voters heard x)) m

-- ---- together

pub ack_laws : (n : Node) (slots : List ℕ) (voter candidate epoch : ℕ) → AckLaws n slots voter candidate epoch
ack_laws n slots voter candidate epoch = record {
  goes_on = goes_on n slots voter candidate epoch;
  wins = wins n slots voter candidate epoch;
  refused = refused_ack n slots voter candidate epoch;
  stays_sound = ack_sound n slots voter candidate epoch;
}
