-- What turns a call away changes nothing.
use Rattle.std.specs.Prelude.{None, Option, Some}
use mathlib.Core.Path.{◌≡◌, refl}
use mathlib.Core.Bool.{Bool, true, false, cond, not}
use mathlib.Core.List.{List}
use Prim.Native.Nat.{ℕ}
use lib.Dec.{T}
use lib.ListN.{length}
use borrow.Author.Tests.{not-true}
use Rattle.tables.specs.Lists.{first_at}
use Rattle.nodesets.specs.NodeSets.{added, majority}
use Rattle.answers.specs.declared.Answer.{Answer}
use Rattle.answers.specs.declared.Answer.TheVariants.{Done}
use Rattle.answers.proofs.Checks.{past}
use Rattle.state.specs.Node.{role_at, followed}
use Rattle.state.specs.Changes.{arrived, with_clock, with_election}
use Rattle.state.specs.Outcomes.{answered, Slotted, Stepped}
use Rattle.state.specs.declared.Node.{Node}
use Rattle.state.specs.declared.Outcome.{Outcome}
use Rattle.state.specs.declared.Role.{Role}
use Rattle.state.specs.declared.Role.TheVariants.{Master, Replica}
use Rattle.state.specs.declared.Election.{Election}
use Rattle.frames.specs.Frames.{frame_of, bitmap_of}
use Rattle.frames.specs.declared.Header.{Header}
use Rattle.frames.specs.declared.Kind.{Kind}
use Rattle.frames.specs.declared.Kind.TheVariants.{Heartbeat, Report, Fail, Request, Ack, Probe, Tick}
use Rattle.refusals.specs.Refusals.{refusals, turns_away}
use Rattle.refusals.proofs.Admitted.{all_turn_away}
use Rattle.heartbeats.specs.Heartbeats.{heartbeat}
use Rattle.votes.specs.Votes.{request_checks, newer, by_owners, requested}
use Rattle.openings.specs.Openings.{open_refusals, open_checks, opens, standing}
use Rattle.acks.specs.Acks.{ack_checks, won, counted, heard_in, acked}
use Rattle.marks.proofs.Kept.{set_refused, clear_refused}
use Rattle.kinds.specs.Kinds.{on_kind}
use Rattle.node.specs.Step.{turned_away, taken_in, on_frame}
use Rattle.frames.specs.declared.Frame.{Frame}
use Rattle.state.specs.Node.{an_election}
use Rattle.promises.specs.Refused.{Unchanged, TurnedAwayChangesNothing}

-- the answers past the refusals are none of 1 to 8
abbrev pub Passes : Answer → Type 0
Passes a = T (turns_away a) → ⊥

abbrev pub lets_pass : Answer → Bool
lets_pass a = not (turns_away a)

pub let_pass : (a : Answer) → lets_pass a ≡ true → Passes a
let_pass a e t = rw (not-true (turns_away a) e) at t

module _ (n : Node) where
  heard_passes : (slots bitmap : List ℕ) (sender : ℕ) (role : Role) (config : ℕ) → Passes (heartbeat n slots bitmap sender role config).outcome.answer
  unfolding heartbeat
  heard_passes slots bitmap sender Master config t = t
  heard_passes slots bitmap sender (Replica m) config t = t

  request_passes : (slots bitmap : List ℕ) (candidate epoch config : ℕ) → Passes (requested n slots bitmap candidate epoch config).answer
  unfolding requested
  request_passes slots bitmap candidate epoch config =
      let role = role_at n candidate in
      past (λ (o : Outcome). Passes o.answer) lets_pass (answered n) (request_checks n slots role bitmap epoch) (by_owners n (followed role) epoch (first_at (newer n bitmap config) slots)) refl
      let_pass (λ p. last (first_at (newer n bitmap config) slots))
    where
      last : (f : Option ℕ) → Passes (by_owners n (followed (role_at n candidate)) epoch f).answer
      last None t = t
      last (Some slot) t = t

  ack_passes : (slots : List ℕ) (voter candidate epoch : ℕ) → Passes (acked n slots voter candidate epoch).outcome.answer
  unfolding acked
  ack_passes slots voter candidate epoch = go n.election
    where
      go : (x : Option Election) → Passes (heard_in n slots voter candidate epoch x).outcome.answer
      go None = λ t. t
      go (Some e) =
          past (λ (o : Slotted). Passes o.outcome.answer) lets_pass (λ (a : Answer). record { outcome = answered n a; slots = slots }) (ack_checks n voter candidate epoch e.epoch e.opened e.voters e.heard)
          (counted n slots e.epoch e.opened e.voters (added e.heard voter)) refl let_pass (λ p. last (majority e.voters (added e.heard voter)))
        where
          last : (b : Bool) → Passes (cond b (won n slots e.epoch) (record { outcome = answered (with_election (an_election e.epoch e.opened e.voters (added e.heard voter)) n) Done; slots = slots })).outcome.answer
          last true t = t
          last false t = t

  pub kind_passes : (slots reports bitmap : List ℕ) (h : Header) (k : Kind) → Passes (on_kind n slots reports bitmap h k).outcome.answer
  unfolding on_kind
  kind_passes slots reports bitmap h (Heartbeat sender role) = heard_passes slots bitmap sender role h.config
  kind_passes slots reports bitmap h (Report reporter subject said) = λ t. t
  kind_passes slots reports bitmap h (Fail sender subject) = λ t. t
  kind_passes slots reports bitmap h (Request candidate) = request_passes slots bitmap candidate h.epoch h.config
  kind_passes slots reports bitmap h (Ack voter candidate) = ack_passes slots voter candidate h.epoch
  kind_passes slots reports bitmap h (Probe subject echo) = λ t. t
  kind_passes slots reports bitmap h Tick = λ t. t

unchanged : (n : Node) (slots reports : List ℕ) (a : Answer) → Unchanged n slots reports (turned_away n slots reports a)
unchanged n slots reports a = record { node = refl; slots_kept = refl; reports_kept = refl }

taken_unchanged : (n : Node) (slots reports bitmap : List ℕ) (d : Option Frame) → T (turns_away (taken_in n slots reports bitmap d).outcome.answer) → Unchanged n slots reports (taken_in n slots reports bitmap d)
taken_unchanged n slots reports bitmap None t = unchanged n slots reports _
taken_unchanged n slots reports bitmap (Some f) t = absurd (kind_passes (arrived f.header.time f.header.epoch n) slots reports bitmap f.header f.kind t)

line_unchanged : (n : Node) (slots reports line : List ℕ) → T (turns_away (on_frame n slots reports line).outcome.answer) → Unchanged n slots reports (on_frame n slots reports line)
unfolding on_frame
line_unchanged n slots reports line =
    let d = frame_of line in
    past (λ (x : Stepped). T (turns_away x.outcome.answer) → Unchanged n slots reports x) turns_away (turned_away n slots reports) (refusals n (length slots) (length reports) d) (taken_in n slots reports (bitmap_of line) d)
    (all_turn_away n (length slots) (length reports) d) (λ a q t. unchanged n slots reports a)
    (λ p. taken_unchanged n slots reports (bitmap_of line) d)

opening_unchanged : (n : Node) (slots : List ℕ) (time : ℕ) → T (turns_away (opens n slots time).answer) → (opens n slots time).node ≡ n
unfolding opens with_clock
opening_unchanged n slots time =
    let P : Outcome → Type 0 = λ o. T (turns_away o.answer) → o.node ≡ n in
    let m = with_clock time n in
    past P turns_away (answered n) (open_refusals n slots time) (standing m slots) refl (λ a q t. refl) (λ p.
    past P lets_pass (answered m) (open_checks m slots (role_at m n.me)) _ refl (λ a q t. absurd (let_pass a q t)) (λ q t. absurd t))

pub turned_away_changes_nothing : (n : Node) → TurnedAwayChangesNothing n
turned_away_changes_nothing n = record {
  line = line_unchanged n;
  opening = opening_unchanged n;
  setting = set_refused n;
  clearing = clear_refused n;
}
