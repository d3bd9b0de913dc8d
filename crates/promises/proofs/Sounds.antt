-- Every call keeps a sound state sound; an unsound one is answered 7 or 1, and stays.
use Rattle.std.specs.Prelude.{None, Option, Some}
use mathlib.Core.Path.{◌≡◌, refl, sym}
use mathlib.Core.Logic.{◌⊎◌, inl, inr}
use mathlib.Core.Bool.{Bool, true, false, cond, not}
use mathlib.Core.List.{List, [], ◌∷◌}
use Prim.Native.Nat.{ℕ, ◌≤◌, ◌<◌}
use native.Mathlib.Omega.{arith}
use lib.Dec.{eqb, ltb, leb}
use lib.ListN.{length}
use borrow.Author.Tests.{eqb-false, ne_eqb, leb-false, ltb-false, lt-ltb}
use Rattle.tables.specs.Sizes.{slot_count}
use Rattle.tables.specs.Checks.{checked}
use Rattle.tables.proofs.Checks.{never, none}
use Rattle.answers.specs.declared.Answer.{Answer}
use Rattle.answers.specs.declared.Answer.TheVariants.{WrongLength, Unsound}
use Rattle.answers.proofs.Checks.{past, test_for}
use Rattle.state.specs.Changes.{with_clock, with_current, risen, arrived}
use Rattle.state.specs.Outcomes.{answered, Stepped}
use Rattle.state.specs.declared.Node.{Node}
use Rattle.state.specs.declared.Outcome.{Outcome}
use Rattle.state.specs.declared.Role.{Role}
use Rattle.state.specs.declared.Role.TheVariants.{Master, Replica}
use Rattle.soundness.specs.Sound.{sound, follow_sound}
use Rattle.frames.specs.Frames.{frame_of, bitmap_of}
use Rattle.frames.specs.declared.Header.{Header}
use Rattle.frames.specs.declared.Kind.{Kind}
use Rattle.frames.specs.declared.Kind.TheVariants.{Heartbeat, Report, Fail, Request, Ack, Probe, Tick}
use Rattle.frames.specs.declared.Frame.{Frame}
use Rattle.refusals.specs.Refusals.{refusals, frame_refusals, both_long, is_unlisted, follows_itself, names_this_node, turns_away}
use Rattle.refusals.proofs.Admitted.{Admitted, admitted, arrives, config_within, all_turn_away}
use Rattle.probes.proofs.Sound.{probed_sound, ticked_sound}
use Rattle.reports.proofs.Sound.{reported_sound, failed_sound}
use Rattle.heartbeats.proofs.Sound.{heartbeat_sound}
use Rattle.votes.proofs.Kept.{request_sound}
use Rattle.openings.specs.Openings.{opens}
use Rattle.openings.proofs.Kept.{open_sound}
use Rattle.acks.proofs.Kept.{ack_sound}
use Rattle.marks.specs.MarkChanges.{set_mark, clear_mark}
use Rattle.marks.proofs.Kept.{set_sound, clear_sound}
use Rattle.kinds.specs.Kinds.{on_kind}
use Rattle.node.specs.Step.{turned_away, taken_in, on_frame}
use Rattle.node.specs.Calls as calls
use Rattle.node.specs.Calls.{Tables, Call, outcome}
use Rattle.promises.specs.Sounds.{EveryCallKeepsSound, UnsoundStays}

-- ---- what a frame that passed the refusals names

-- a heartbeat's sender is listed, and is another node
pub sender_listed : (size sender : ℕ) (role : Role) → is_unlisted size (Heartbeat sender role) ≡ false → sender < size
sender_listed size sender Master e = leb-false size sender e
sender_listed size sender (Replica m) e = leb-false size sender (none 0 (leb size sender ∷ leb size m ∷ []) e)

pub sender_other : (me sender : ℕ) (role : Role) → names_this_node me (Heartbeat sender role) ≡ false → sender ≡ me → ⊥
sender_other me sender Master e q = eqb-false me sender (none 0 (eqb me sender ∷ false ∷ []) e) (sym q)
sender_other me sender (Replica m) e q = eqb-false me sender (none 0 (eqb me sender ∷ false ∷ []) e) (sym q)

-- a replica follows a listed node, and not itself
follow_sound_lem : (size sender : ℕ) (role : Role) → is_unlisted size (Heartbeat sender role) ≡ false → follows_itself (Heartbeat sender role) ≡ false → follow_sound size sender role ≡ true
follow_sound_lem size sender Master l s = refl
follow_sound_lem size sender (Replica m) l s =
    rw (lt-ltb m size (leb-false size m (none 1 (leb size sender ∷ leb size m ∷ []) l)), ne_eqb m sender (λ e. eqb-false sender m s (sym e)))

-- so is the subject of a fail frame and of a probe
failed_other : (me sender subject : ℕ) → names_this_node me (Fail sender subject) ≡ false → subject ≡ me → ⊥
failed_other me sender subject e q =
    eqb-false me subject (none 1 (eqb me sender ∷ eqb me subject ∷ []) (none 0 (cond (eqb me sender) true (eqb me subject) ∷ false ∷ []) e)) (sym q)

-- currentEpoch has risen to the frame's
pub risen_to : (old new : ℕ) → new ≤ risen old new
risen_to old new = by (ltb old new) refl
  where
    by : (b : Bool) → ltb old new ≡ b → new ≤ cond b new old
    by true e = omega arith
    by false e = ltb-false old new e

-- ---- by kind

module _ (n : Node) (slots reports bitmap : List ℕ) (h : Header) where
  abbrev frame : Kind → Frame
  frame k = record { header = h; kind = k }

  abbrev m : Node
  m = arrived h.time h.epoch n

  abbrev Passed : Kind → Type 0
  Passed k = Admitted n (length slots) (length reports) (frame k)

  comes : (k : Kind) → Passed k → sound m ≡ true
  comes k a = arrives n (length slots) (length reports) (frame k) a

  kind_sound : (k : Kind) → Passed k → sound (on_kind m slots reports bitmap h k).outcome.node ≡ true
  unfolding on_kind with_clock with_current
  kind_sound (Heartbeat sender role) a =
      let c : h.config ≤ h.epoch = config_within n (length slots) (length reports) (frame (Heartbeat sender role)) a in
      let r : h.epoch ≤ risen n.current h.epoch = risen_to n.current h.epoch in
      heartbeat_sound m slots bitmap sender role h.config (comes (Heartbeat sender role) a) (sender_other n.me sender role a.not_this_node)
      (follow_sound_lem n.size sender role a.all_listed a.follows_another) (omega (arith, c, r))
  kind_sound (Report reporter subject said) a = reported_sound m (comes (Report reporter subject said) a) slots reports reporter subject said
  kind_sound (Fail sender subject) a = failed_sound m (comes (Fail sender subject) a) subject (failed_other n.me sender subject a.not_this_node)
  kind_sound (Request candidate) a = request_sound m slots bitmap candidate h.epoch h.config (comes (Request candidate) a) (risen_to n.current h.epoch)
  kind_sound (Ack voter candidate) a = ack_sound m slots voter candidate h.epoch (comes (Ack voter candidate) a)
  kind_sound (Probe subject echo) a =
      probed_sound m (comes (Probe subject echo) a) slots subject echo (λ e. eqb-false n.me subject (none 0 (eqb n.me subject ∷ false ∷ []) a.not_this_node) (sym e))
  kind_sound Tick a = ticked_sound m (comes Tick a) slots reports

frame_sound : (n : Node) (slots reports line : List ℕ) → sound n ≡ true → sound (on_frame n slots reports line).outcome.node ≡ true
unfolding on_frame
frame_sound n slots reports line s =
    past (λ (x : Stepped). sound x.outcome.node ≡ true) turns_away (turned_away n slots reports) (refusals n (length slots) (length reports) (frame_of line)) (taken_in n slots reports (bitmap_of line) (frame_of line))
    (all_turn_away n (length slots) (length reports) (frame_of line)) (λ a q. s) (go (frame_of line))
  where
    go : (d : Option Frame) → ((a : ℕ) → test_for a (refusals n (length slots) (length reports) d) ≡ false) → sound (taken_in n slots reports (bitmap_of line) d).outcome.node ≡ true
    go None p = s
    go (Some f) p = kind_sound n slots reports (bitmap_of line) f.header f.kind (admitted n (length slots) (length reports) f p)

pub every_call_keeps_sound : (n : Node) (t : Tables) (c : Call) → EveryCallKeepsSound n t c
every_call_keeps_sound n t (calls.frame line) h = frame_sound n t.slots t.reports line h
every_call_keeps_sound n t (calls.opening time) h = open_sound n t.slots time h
every_call_keeps_sound n t (calls.setting slot move) h = set_sound n h t.slots slot move
every_call_keeps_sound n t (calls.clearing slot) h = clear_sound n h slot

-- ---- an unsound state

-- 1 and then 7 come before all else
entry_first : {A : Type 0} (P : A → Type 0) (refuse : Answer → A) (t u : Bool) (x : A) → u ≡ false → P (refuse WrongLength) → P (refuse Unsound) → P (cond t (refuse WrongLength) (cond (not u) (refuse Unsound) x))
entry_first P refuse true u x e f g = f
entry_first P refuse false true x e f g = never e
entry_first P refuse false false x e f g = g

module _ (n : Node) (e : sound n ≡ false) where
  abbrev Stays : Outcome → Type 0
  Stays o = (o ≡ answered n Unsound) ⊎ (o ≡ answered n WrongLength)

  entered : (t : Bool) (x : Outcome) → Stays (cond t (answered n WrongLength) (cond (not (sound n)) (answered n Unsound) x))
  entered t x = entry_first Stays (answered n) t (sound n) x e (inr refl) (inl refl)

  frame_stays : (slots reports line : List ℕ) → Stays (on_frame n slots reports line).outcome
  unfolding on_frame refusals
  frame_stays slots reports line =
      entry_first (λ (x : Stepped). Stays x.outcome) (turned_away n slots reports) (not (both_long (length slots) (length reports))) (sound n)
      (checked (turned_away n slots reports) (frame_refusals n (frame_of line)) (taken_in n slots reports (bitmap_of line) (frame_of line))) e (inr refl) (inl refl)

pub unsound_stays : (n : Node) (t : Tables) (c : Call) → UnsoundStays n t c
unfolding opens set_mark clear_mark
unsound_stays n t (calls.frame line) e = frame_stays n e t.slots t.reports line
unsound_stays n t (calls.opening time) e = entered n e (not (eqb (length t.slots) slot_count)) _
unsound_stays n t (calls.setting slot move) e = entered n e (not (eqb (length t.slots) slot_count)) _
unsound_stays n t (calls.clearing slot) e = entered n e false _
