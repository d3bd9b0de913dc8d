-- Every call on two nodes that are alike, and every list of calls.
use Rattle.std.specs.Prelude.{None, Option, Some}
use mathlib.Core.Path.{◌≡◌, refl, sym, ◌∙◌}
use mathlib.Core.Bool.{Bool, true, false, cond}
use mathlib.Core.List.{List, [], ◌∷◌, ◌++◌}
use Prim.Native.Nat.{ℕ, ◌<◌}
use lib.Dec.{eqb, ltb}
use lib.ListN.{length}
use borrow.Author.Tests.{ltb-true, eqb-true, not-false}
use Rattle.tables.specs.Sizes.{node_room, mark_room, slot_count}
use Rattle.tables.proofs.Checks.{part}
use Rattle.answers.specs.declared.Answer.TheVariants as answer
use Rattle.state.specs.Node.{record_at, role_at, followed}
use Rattle.state.specs.Changes.{with_clock, with_current, arrived}
use Rattle.state.specs.Outcomes.{answered}
use Rattle.state.specs.declared.Node.{Node}
use Rattle.state.specs.declared.Role.{Role}
use Rattle.state.specs.declared.Role.TheVariants.{Master, Replica}
use Rattle.soundness.specs.Sound.{sound, arrays_whole}
use Rattle.soundness.proofs.Facts.{some_nodes, me_listed, followed_listed}
use Rattle.frames.specs.Frames.{frame_of, bitmap_of}
use Rattle.frames.specs.declared.Header.{Header}
use Rattle.frames.specs.declared.Kind.{Kind}
use Rattle.frames.specs.declared.Kind.TheVariants.{Heartbeat, Report, Fail, Request, Ack, Probe, Tick}
use Rattle.refusals.specs.Refusals.{both_long, frame_refusals, refusals}
use Rattle.openings.specs.Openings.{time_checks, open_refusals, opens}
use Rattle.kinds.specs.Kinds.{keeping, on_kind}
use Rattle.node.specs.Step.{turned_away, taken_in, on_frame}
use Rattle.node.specs.Calls.{Tables, Call, frame, opening, setting, clearing, called}
use Rattle.sameness.specs.Sameness.{LentCall, told, state_after, SameStatesActAlike}
use Rattle.sameness.proofs.Seen.{Alike, Reads, alike_same, reads_alike, changes_alike}
use Rattle.sameness.proofs.Told.{Told, same_step, answered_told, entry_alike, checked_told}
use Rattle.sameness.proofs.Failure.{probe_change, tick_change, fail_change, reported_told}
use Rattle.sameness.proofs.Heartbeats.{heartbeat_told}
use Rattle.sameness.proofs.Elections.{requested_told, standing_told, acked_told}
use Rattle.frames.specs.declared.Frame.{Frame}
use Rattle.sameness.proofs.Marks.{routed_alike, ranges_alike, set_told, clear_told}

-- ---- what rules read of a sound state is in the roster

-- this node, and whoever is followed
record InRoster (n : Node) : Type 0 where
  me : n.me < n.size
  followed : (k : ℕ) → followed (role_at n k) < n.size

in_roster_lem : (n : Node) → sound n ≡ true → InRoster n
in_roster_lem n s = record { me = me_listed n s; followed = λ k. by k (ltb k n.size) refl }
  where
    role : (k : ℕ) → k < n.size → (r : Role) → (record_at n k).role ≡ r → followed r < n.size
    role k l Master q = some_nodes n s
    role k l (Replica m) q = (followed_listed n s k m l q).0

    by : (k : ℕ) (t : Bool) → ltb k n.size ≡ t → followed (cond t (record_at n k).role Master) < n.size
    by k true q = role k (ltb-true k n.size q) (record_at n k).role refl
    by k false q = some_nodes n s

-- ---- a frame

module _ (a b : Node) (e : Alike a b) (r : InRoster a) (slots reports bitmap : List ℕ) (h : Header) where
  kind_told : (k : Kind) → Told (on_kind a slots reports bitmap h k) (on_kind b slots reports bitmap h k)
  unfolding on_kind
  kind_told (Heartbeat sender role) = heartbeat_told a b e r.me slots reports bitmap sender role h.config
  kind_told (Report reporter subject said) = reported_told a b e slots reports reporter subject said
  kind_told (Fail sender subject) = answered_told _ _ (changes_alike a b e _ (fail_change subject)) slots reports answer.Done
  kind_told (Request candidate) = requested_told a b e slots reports r.followed bitmap candidate h.epoch h.config
  kind_told (Ack voter candidate) = acked_told a b e r.followed slots reports voter candidate h.epoch
  kind_told (Probe subject echo) = answered_told _ _ (changes_alike a b e _ (probe_change slots subject echo)) slots reports answer.Done
  kind_told Tick = answered_told _ _ (changes_alike a b e _ (tick_change slots reports)) slots reports answer.Done

refusals_read : (d : Option Frame) → Reads (λ n. frame_refusals n d)
unfolding frame_refusals
refusals_read None n = refl
refusals_read (Some f) n = refl

module _ (a b : Node) (e : Alike a b) where
  frame_told : (slots reports line : List ℕ) → Told (on_frame a slots reports line) (on_frame b slots reports line)
  unfolding on_frame refusals with_clock with_current
  frame_told slots reports line =
      checked_told (λ s. s) (turned_away a slots reports) (turned_away b slots reports) (refusals a (length slots) (length reports) (frame_of line)) (refusals b (length slots) (length reports) (frame_of line))
      (λ i. entry_alike a b e (both_long (length slots) (length reports)) i ++ reads_alike a b e (λ n. frame_refusals n (frame_of line)) (refusals_read (frame_of line)) i) _ _
      (answered_told a b e slots reports) (λ p. taken_told (in_roster_lem a (not-false _ (p 7))) (frame_of line))
    where
      taken_told : InRoster a → (d : Option Frame) → Told (taken_in a slots reports (bitmap_of line) d) (taken_in b slots reports (bitmap_of line) d)
      taken_told r None = answered_told a b e slots reports answer.NotAFrame
      taken_told r (Some f) =
          kind_told _ _ (changes_alike a b e (arrived f.header.time f.header.epoch) (λ n. refl)) (record { me = r.me; followed = r.followed })
          slots reports (bitmap_of line) f.header f.kind

  opens_told : (slots reports : List ℕ) (time : ℕ) → Told (keeping slots reports (opens a slots time)) (keeping slots reports (opens b slots time))
  unfolding opens with_clock
  opens_told slots reports time =
      checked_told (keeping slots reports) (answered a) (answered b) (open_refusals a slots time) (open_refusals b slots time)
      (λ i. entry_alike a b e (eqb (length slots) slot_count) i ++ reads_alike a b e (λ n. time_checks n time) (λ n. refl) i) _ _
      (answered_told a b e slots reports)
      (λ p. standing_told _ _ (changes_alike a b e (with_clock time) (λ n. refl)) slots reports (in_roster_lem a (not-false _ (p 7))).followed)

  -- ---- every call

  call_told : (t : Tables) (c : Call) → Told (called a t c) (called b t c)
  call_told t (frame line) = frame_told t.slots t.reports line
  call_told t (opening time) = opens_told t.slots t.reports time
  call_told t (setting slot move) = set_told a b e t.slots t.reports slot move
  call_told t (clearing slot) = clear_told a b e t.slots t.reports slot

-- ---- every list of calls

list_told : (a b : Node) → Alike a b → (ms : List LentCall) → (told a ms ≡ told b ms) × Alike (state_after a ms) (state_after b ms)
list_told a b e [] = (refl, e)
list_told a b e (m ∷ ms) =
    let s = call_told a b e m.lent m.call in
    let r = list_told (called a m.lent m.call).outcome.node (called b m.lent m.call).outcome.node s.node ms in
    (λ i. (s.answer i, record { slots = s.slots i; reports = s.reports i }) ∷ r.0 i, r.1)

-- ---- two nodes in the same state

-- whole arrays are as long as their types say
whole : (n : Node) → arrays_whole n ≡ true → (length n.ids ≡ node_room) × (length n.records ≡ node_room) × (length n.marks ≡ mark_room)
unfolding arrays_whole
whole n h =
    let tests : List Bool = eqb (length n.ids) node_room ∷ eqb (length n.records) node_room ∷ eqb (length n.marks) mark_room ∷ [] in
    (eqb-true _ _ (part 0 tests h), eqb-true _ _ (part 1 tests h), eqb-true _ _ (part 2 tests h))

pub same_states_act_alike : (a b : Node) → SameStatesActAlike a b
same_states_act_alike a b p q s =
    let u = whole a p in
    let v = whole b q in
    let e : Alike a b = λ i. record { held = s i; ids = (u.0 ∙ sym v.0) i; records = (u.1 ∙ sym v.1) i; marks = (u.2 ∙ sym v.2) i } in
    record {
      call = λ t c. same_step _ _ (call_told a b e t c);
      list = λ ms. (list_told a b e ms).0;
      state = λ ms. alike_same _ _ (list_told a b e ms).1;
      reply = λ ms. routed_alike _ _ (list_told a b e ms).1;
      listing = λ ms. ranges_alike _ _ (list_told a b e ms).1;
    }
