-- Every call, by its kind.
use Rattle.std.specs.Prelude.{None, Option, Some}
use mathlib.Core.Path.{◌≡◌, refl, ap}
use mathlib.Core.Logic.{◌⊎◌, inl, inr}
use mathlib.Core.Bool.{true, false}
use mathlib.Core.List.{List}
use Prim.Native.Nat.{ℕ, ◌<◌}
use lib.ListN.{length}
use Rattle.tables.specs.Sizes.{slot_count}
use Rattle.tables.proofs.Lists.{at_set}
use Rattle.answers.proofs.Checks.{test_for, past}
use Rattle.state.specs.Node.{blank, record_at, role_at, followed}
use Rattle.state.specs.Changes.{with_records, with_marks, with_voted, with_clock, with_current, with_election, arrived}
use Rattle.state.specs.Outcomes.{Slotted, Stepped}
use Rattle.state.specs.declared.Node.{Node}
use Rattle.state.specs.declared.Record.{Record}
use Rattle.state.specs.declared.Outcome.{Outcome}
use Rattle.state.specs.declared.Role.{Role}
use Rattle.state.specs.declared.Role.TheVariants.{Master, Replica}
use Rattle.soundness.specs.Sound.{sound}
use Rattle.soundness.proofs.Facts.{open_replica}
use Rattle.marks.specs.Marks.{ButMarks}
use Rattle.marks.proofs.Kept.{set_marks_keep, clear_marks_keep}
use Rattle.frames.specs.Frames.{frame_of, bitmap_of}
use Rattle.frames.specs.declared.Header.{Header}
use Rattle.frames.specs.declared.Kind.{Kind}
use Rattle.frames.specs.declared.Kind.TheVariants.{Heartbeat, Report, Fail, Request, Ack, Probe, Tick}
use Rattle.refusals.specs.Refusals.{is_unlisted, names_this_node, refusals, turns_away}
use Rattle.refusals.proofs.Admitted.{slots_whole, admitted, arrives, all_turn_away}
use Rattle.failure.specs.Keeps.{Kept}
use Rattle.failure.proofs.Keeps.{size_kept, me_kept}
use Rattle.probes.proofs.Keeps.{probed_kept, ticked_kept}
use Rattle.reports.proofs.Keeps.{reported_kept, failed_kept}
use Rattle.heartbeats.specs.Heartbeats.{heartbeat}
use Rattle.votes.specs.Votes.{granted, requested}
use Rattle.votes.proofs.Steps.{request_cases}
use Rattle.openings.specs.Openings as openings
use Rattle.openings.specs.Openings.{opens}
use Rattle.openings.proofs.Steps.{open_cases}
use Rattle.acks.specs.Acks.{acked}
use Rattle.acks.proofs.Steps.{ack_cases}
use Rattle.acks.proofs.Kept.{running_sound}
use Rattle.kinds.specs.Kinds.{on_kind}
use Rattle.node.specs.Step.{turned_away, taken_in, on_frame}
use Rattle.node.specs.Calls.{Call, frame, opening, setting, clearing}
use Rattle.promises.proofs.Sounds.{sender_listed, sender_other}
use Rattle.monotone.specs.Runs.{World, after}
use Rattle.monotone.specs.NeverSlidesBack.{owner, Owned, PassesUp}
use Rattle.monotone.proofs.Onward.{ReplicaAtZero, Moves, world, left, Alike, alike, Quiet, quiet_moves}
use Rattle.monotone.proofs.Heartbeats.{replica_moves, master_moves}
use Rattle.frames.specs.declared.Frame.{Frame}
use Rattle.monotone.proofs.Wins.{win_moves}

-- ---- quiet calls

-- all that the invariant and the theorem read stays
same : (n : Node) → Quiet n n
same n = record { size = refl; me = refl; records = λ k. alike (record_at n k) }

failure_quiet : (n m : Node) → Kept n m → Quiet n m
failure_quiet n m k = record {
  size = size_kept n m k;
  me = me_kept n m k;
  records = λ j. record { role = ap (λ (r : Record). r.role) (k.records j); config = ap (λ (r : Record). r.config) (k.records j) };
}

marks_quiet : (n m : Node) → ButMarks n m → Quiet n m
unfolding with_marks
marks_quiet n m b = record {
  size = ap (λ (x : Node). x.size) b;
  me = ap (λ (x : Node). x.me) b;
  records = λ k. record { role = ap (λ (x : Node). (record_at x k).role) b; config = ap (λ (x : Node). (record_at x k).config) b };
}

grant_quiet : (n : Node) (m epoch : ℕ) → Quiet n (granted m epoch n)
unfolding granted with_voted with_records
grant_quiet n m epoch = record {
  size = refl;
  me = refl;
  records = λ k. at_set (λ (r : Record). Alike (record_at n k) r) n.records m _ blank k (alike (record_at n k)) (λ e. rw e (record { role = refl; config = refl }));
}

vote_quiet : (n : Node) (slots bitmap : List ℕ) (candidate epoch config : ℕ) → Quiet n (requested n slots bitmap candidate epoch config).node
vote_quiet n slots bitmap candidate epoch config =
    request_cases n slots bitmap candidate epoch config (λ (o : Outcome). Quiet n o.node) (λ a t. same n)
    (λ p f. grant_quiet n (followed (role_at n candidate)) epoch)

records_quiet : (n m : Node) → m.size ≡ n.size → m.me ≡ n.me → m.records ≡ n.records → Quiet n m
records_quiet n m s i r = record { size = s; me = i; records = λ k. rw r (alike (record_at n k)) }

open_quiet : (n : Node) (slots : List ℕ) (time : ℕ) → Quiet n (opens n slots time).node
unfolding openings.opening with_election with_current with_clock
open_quiet n slots time =
    open_cases n slots time (λ (o : Outcome). Quiet n o.node) (λ a t. same n) (λ w a t. records_quiet n _ refl refl refl) (λ w p. records_quiet n _ refl refl refl)

-- ---- a frame that passed the refusals

ack_moves : (n : Node) (slots reports : List ℕ) (voter candidate epoch : ℕ) → sound n ≡ true → length slots ≡ slot_count → ReplicaAtZero n
    → let x = acked n slots voter candidate epoch in Moves (world n slots reports) (world x.outcome.node x.slots reports)
unfolding with_election
ack_moves n slots reports voter candidate epoch h long z =
    ack_cases n slots voter candidate epoch (λ (x : Slotted). Moves (world n slots reports) (world x.outcome.node x.slots reports))
    (λ a t. quiet_moves n n slots reports reports (same n) z)
    (λ o v k w e. quiet_moves n _ slots reports reports (records_quiet n _ refl refl refl) z)
    (λ o v k w e. win_moves n slots reports epoch h (open_replica n epoch o v k (running_sound n voter candidate epoch o v k h w)) z long)

heard_moves : (n : Node) (slots reports bitmap : List ℕ) (sender : ℕ) (role : Role) (config : ℕ) → sound n ≡ true → sender < n.size → (sender ≡ n.me → ⊥) → length slots ≡ slot_count → ReplicaAtZero n
    → let x = heartbeat n slots bitmap sender role config in Moves (world n slots reports) (world x.outcome.node x.slots reports)
heard_moves n slots reports bitmap sender Master config h i d long z = master_moves n slots reports bitmap sender config d h i long z
heard_moves n slots reports bitmap sender (Replica m) config h i d long z = replica_moves n slots reports bitmap sender config d m z

module _ (n : Node) (slots reports bitmap : List ℕ) (h : sound n ≡ true) (long : length slots ≡ slot_count) (z : ReplicaAtZero n) where
  -- the slot table stays, and of the node all that is read
  quiet : (m : Node) (reports' : List ℕ) → Quiet n m → Moves (world n slots reports) (world m slots reports')
  quiet m reports' q = quiet_moves n m slots reports reports' q z

  kind_moves : (header : Header) (kind : Kind) → is_unlisted n.size kind ≡ false → names_this_node n.me kind ≡ false → Moves (world n slots reports) (left (on_kind n slots reports bitmap header kind))
  unfolding on_kind
  kind_moves header (Heartbeat sender role) l d = heard_moves n slots reports bitmap sender role header.config h (sender_listed n.size sender role l) (sender_other n.me sender role d) long z
  kind_moves header (Report reporter subject verdict) l d = quiet _ _ (failure_quiet n _ (reported_kept n slots reports reporter subject verdict))
  kind_moves header (Fail sender subject) l d = quiet _ _ (failure_quiet n _ (failed_kept n subject))
  kind_moves header (Request candidate) l d = quiet _ _ (vote_quiet n slots bitmap candidate header.epoch header.config)
  kind_moves header (Ack voter candidate) l d = ack_moves n slots reports voter candidate header.epoch h long z
  kind_moves header (Probe subject echo) l d = quiet _ _ (failure_quiet n _ (probed_kept n slots subject echo))
  kind_moves header Tick l d = quiet _ _ (failure_quiet n _ (ticked_kept n slots reports))

-- clock and currentEpoch are nothing that the theorem reads
from_arrival : (time epoch : ℕ) (n : Node) (slots reports : List ℕ) (b : World) → Moves (world (arrived time epoch n) slots reports) b → Moves (world n slots reports) b
unfolding with_clock with_current
from_arrival time epoch n slots reports b x = record { at_zero = x.at_zero; onward = record { size = x.onward.size; epochs = x.onward.epochs; owners = owners } }
  where
    owners : (s : ℕ) → s < slot_count → Owned (world n slots reports) s → (owner b s ≡ owner (world n slots reports) s) ⊎ PassesUp (world n slots reports) b s
    owners s l o = go (x.onward.owners s l o)
      where
        go : (owner b s ≡ owner (world n slots reports) s) ⊎ PassesUp (world (arrived time epoch n) slots reports) b s → (owner b s ≡ owner (world n slots reports) s) ⊎ PassesUp (world n slots reports) b s
        go (inl e) = inl e
        go (inr p) = inr (record { another = p.another; owned = p.owned; above = p.above })

-- ---- every call

frame_moves : (n : Node) (slots reports line : List ℕ) → ReplicaAtZero n → Moves (world n slots reports) (left (on_frame n slots reports line))
unfolding on_frame with_clock with_current
frame_moves n slots reports line z =
    past (λ (x : Stepped). Moves (world n slots reports) (left x)) turns_away (turned_away n slots reports) (refusals n (length slots) (length reports) (frame_of line)) (taken_in n slots reports (bitmap_of line) (frame_of line))
    (all_turn_away n (length slots) (length reports) (frame_of line)) (λ a q. away) (go (frame_of line))
  where
    away : Moves (world n slots reports) (world n slots reports)
    away = quiet_moves n n slots reports reports (same n) z

    go : (d : Option Frame) → ((a : ℕ) → test_for a (refusals n (length slots) (length reports) d) ≡ false) → Moves (world n slots reports) (left (taken_in n slots reports (bitmap_of line) d))
    go None p = away
    go (Some f) p =
        let w = admitted n (length slots) (length reports) f p in
        let t = f.header.time in
        let e = f.header.epoch in
        from_arrival t e n slots reports _
        (kind_moves (arrived t e n) slots reports (bitmap_of line) (arrives n (length slots) (length reports) f w) (slots_whole (length slots) (length reports) w.lengths) z f.header f.kind w.all_listed w.not_this_node)

pub call_moves : (w : World) (c : Call) → ReplicaAtZero w.node → Moves w (after w c)
call_moves w (frame line) z = frame_moves w.node w.tables.slots w.tables.reports line z
call_moves w (opening time) z = quiet_moves w.node _ w.tables.slots w.tables.reports w.tables.reports (open_quiet w.node w.tables.slots time) z
call_moves w (setting slot move) z = quiet_moves w.node _ w.tables.slots w.tables.reports w.tables.reports (marks_quiet w.node _ (set_marks_keep w.node w.tables.slots slot move)) z
call_moves w (clearing slot) z = quiet_moves w.node _ w.tables.slots w.tables.reports w.tables.reports (marks_quiet w.node _ (clear_marks_keep w.node slot)) z
