-- What each call changes: the laws of the chapters, on lines.
use Rattle.std.specs.Prelude.{None, Option, Some}
use mathlib.Core.Path.{◌≡◌, refl, sym, ap, subst, ◌∙◌}
use mathlib.Core.Logic.{◌⊎◌, inl, inr}
use mathlib.Core.Bool.{Bool, true, false, cond}
use mathlib.Core.List.{List, [], ◌∷◌}
use Prim.Native.Nat.{ℕ, ◌+◌, ◌<◌}
use native.Mathlib.Omega.{arith}
use lib.Dec.{T, ltb, leb}
use lib.ListN.{length}
use lib.Seq.{get_or-set_same, get_or-set_other}
use borrow.Author.Tests.{leb-false, lt-ltb, le-ltb}
use Rattle.tables.specs.Sizes.{top, time_end}
use Rattle.tables.proofs.Checks.{never, part, none}
use Rattle.answers.specs.declared.Answer.TheVariants.{Done}
use Rattle.answers.proofs.Checks.{past, test_for}
use Rattle.state.specs.Node.{blank, record_at, master_at, is_master, role_at}
use Rattle.state.specs.Changes.{with_role, with_config, with_records, with_clock, with_current, risen, arrived}
use Rattle.state.specs.Outcomes.{answered, Slotted, Stepped}
use Rattle.state.specs.declared.Node.{Node}
use Rattle.state.specs.declared.Record.{Record}
use Rattle.state.specs.declared.Outcome.{Outcome}
use Rattle.state.specs.declared.Role.{Role}
use Rattle.state.specs.declared.Role.TheVariants.{Master, Replica}
use Rattle.state.specs.declared.Verdict.{Verdict}
use Rattle.state.specs.declared.Verdict.TheVariants as verdict
use Rattle.state.specs.declared.Echo.{Echo}
use Rattle.state.specs.declared.Echo.TheVariants.{Ping, Pong}
use Rattle.soundness.proofs.Facts.{all_records, few_nodes, me_listed}
use Rattle.frames.specs.Frames.{layout_of, frame_of, bitmap_of}
use Rattle.frames.specs.Lines.{encode, RestFits, Fits}
use Rattle.frames.specs.declared.Header.{Header}
use Rattle.frames.specs.declared.Kind.{Kind}
use Rattle.frames.specs.declared.Kind.TheVariants.{Heartbeat, Report, Fail, Request, Ack, Probe, Tick}
use Rattle.frames.specs.declared.Frame.{Frame}
use Rattle.frames.proofs.OneLine.{one_line}
use Rattle.refusals.specs.Refusals.{is_beyond, frame_refusals, refusals, turns_away}
use Rattle.refusals.proofs.Admitted.{Admitted, admitted, all_turn_away}
use Rattle.failure.specs.Failure.{stamp, looked_at}
use Rattle.probes.specs.Probes.{after_probe, probed}
use Rattle.probes.proofs.Keeps.{ticked_flags}
use Rattle.probes.proofs.Ticks.{tick_each}
use Rattle.reports.specs.Reports.{stored, reported, failed}
use Rattle.heartbeats.specs.Heartbeats.{heard_of, with_sender, tied, heartbeat}
use Rattle.heartbeats.proofs.Frame as heartbeats
use Rattle.votes.proofs.Steps.{request_cases}
use Rattle.openings.specs.Openings.{open_refusals, open_checks, opening, opens, standing}
use Rattle.openings.proofs.Steps.{open_cases}
use Rattle.acks.proofs.Steps.{ack_cases}
use Rattle.marks.proofs.Kept.{set_marks_keep, clear_marks_keep, set_done, clear_done}
use Rattle.kinds.specs.Kinds.{on_kind}
use Rattle.node.specs.Step.{turned_away, taken_in, on_frame}
use Rattle.promises.specs.Changes.{Bumped, NotBumped, gives_way, RequestChanges, AckChanges, KindChanges, FrameChanges, LineChanges, OpeningChanges, MarkChanges}
use Rattle.promises.proofs.Refused.{lets_pass}
use Rattle.promises.proofs.Claims.{table_after}
use Rattle.promises.proofs.Sounds.{sender_listed, sender_other}

-- ---- heartbeat

module _ (n : Node) (slots bitmap : List ℕ) (h : Header) (sender : ℕ) where
  abbrev m : Node
  m = arrived h.time h.epoch n

  abbrev hears : Role → Slotted
  hears role = heartbeat m slots bitmap sender role h.config

  abbrev then : Role → Node
  then role = (hears role).outcome.node

  abbrev tie : Role → Bool
  tie role = gives_way m sender role h.config

  beside : (role : Role) → then role ≡ with_records (then role).records (with_current (then role).current (with_clock h.time n))
  unfolding with_records with_clock with_current
  beside role = heartbeats.heartbeat_keeps m slots bitmap sender h.config role

  module _ (d : sender ≡ n.me → ⊥) (l : sender < length n.records) (own : n.me < length n.records) where
    sender_heard : (role : Role) → record_at (then role) sender ≡ heard_of role h.config (record_at n sender)
    unfolding with_clock with_current heartbeat with_sender with_records
    sender_heard Master = heartbeats.sender_record m slots bitmap sender h.config d l
    sender_heard (Replica f) = get_or-set_same n.records sender (with_role (Replica f) (record_at n sender)) blank l

    -- a replica ties with nobody
    no_master : (f : ℕ) → master_at (with_sender sender (Replica f) h.config m) sender ≡ false
    unfolding with_clock with_current with_sender with_records
    no_master f = by (ltb sender n.size)
      where
        by : (b : Bool) → cond b (is_master (record_at (with_sender sender (Replica f) h.config m) sender).role) false ≡ false
        by true = ap (λ (r : Record). is_master r.role) (get_or-set_same n.records sender (with_role (Replica f) (record_at n sender)) blank l)
        by false = refl

    gave_way : (role : Role) → (tie role ≡ true → Bumped m (then role)) × (tie role ≡ false → NotBumped m (then role))
    unfolding with_clock with_current heartbeat with_sender with_records
    gave_way (Replica f) = (
      λ e. never (sym (part 1 (tied sender h.config (with_sender sender (Replica f) h.config m)) e) ∙ no_master f),
      λ e. record { current = refl; config = get_or-set_other n.records sender n.me (with_role (Replica f) (record_at n sender)) blank (λ q. d (sym q)) },
    )
    gave_way Master = by (tie Master) (heartbeats.master_current m slots bitmap sender h.config) (heartbeats.own_record m slots bitmap sender h.config (λ e. d (sym e)) own)
      where
        by : (b : Bool) → (then Master).current ≡ cond b (m.current + 1) m.current → record_at (then Master) m.me ≡ cond b (with_config (m.current + 1) (record_at m m.me)) (record_at m m.me) → (b ≡ true → Bumped m (then Master)) × (b ≡ false → NotBumped m (then Master))
        by true c r = (λ e. record { current = c; config = r }, λ e. never e)
        by false c r = (λ e. never (sym e), λ e. record { current = c; config = r })

-- ---- by kind

-- a time that passes is stored as the time plus one
stamped : (h : Header) → is_beyond h ≡ false → stamp h.time ≡ h.time + 1
unfolding is_beyond
stamped h e = rw (lt-ltb h.time time_end (leb-false time_end h.time (none 3 (ltb top h.epoch ∷ ltb top h.config ∷ ltb h.epoch h.config ∷ leb time_end h.time ∷ []) e)))

module _ (n : Node) (slots reports bitmap : List ℕ) (h : Header) where
  abbrev Passed : Kind → Type 0
  Passed k = Admitted n (length slots) (length reports) (record { header = h; kind = k })

  abbrev Changes : Kind → Node → Type 0
  Changes k x = KindChanges n slots reports (on_kind x slots reports bitmap h k) h bitmap k

  abbrev later : Node
  later = with_clock h.time n

  -- a frame without an epoch moves the clock only
  clock_moves : h.epoch ≡ 0 → arrived h.time h.epoch n ≡ later
  unfolding with_clock with_current
  clock_moves e = ap (λ (x : ℕ). with_clock h.time (with_current (risen n.current x) n)) e ∙ ap (λ (b : Bool). with_clock h.time (with_current (cond b 0 n.current) n)) (le-ltb n.current 0 (omega arith))

  report_changes : (reporter subject : ℕ) (said : Verdict) → Passed (Report reporter subject said) → Changes (Report reporter subject said) later
  unfolding on_kind with_clock reported stored looked_at
  report_changes reporter subject verdict.Fine a = record { node = refl; tables = record { slots_kept = refl; reports_kept = refl } }
  report_changes reporter subject verdict.Pfail a = record { node = refl; entry = rw (stamped h a.within_bounds); slots_kept = refl }
  report_changes reporter subject verdict.Fail a = record { node = refl; entry = rw (stamped h a.within_bounds); slots_kept = refl }

  probe_changes : (subject : ℕ) (echo : Echo) → Changes (Probe subject echo) later
  unfolding on_kind with_clock probed after_probe
  probe_changes subject Ping = record { node = refl; tables = record { slots_kept = refl; reports_kept = refl } }
  probe_changes subject Pong = record { node = refl; tables = record { slots_kept = refl; reports_kept = refl } }

  fail_changes : (sender subject : ℕ) → Changes (Fail sender subject) later
  unfolding on_kind with_clock failed
  fail_changes sender subject = record { node = refl; tables = record { slots_kept = refl; reports_kept = refl } }

  tick_changes : Passed Tick → Changes Tick later
  unfolding on_kind with_clock
  tick_changes a =
      let s = a.node_sound in
      record {
        flags = ticked_flags later slots reports;
        each = λ k l. tick_each later slots reports k l (omega (arith, l, all_records n s, few_nodes n s));
        tables = record { slots_kept = refl; reports_kept = refl };
      }

  heartbeat_changes : (sender : ℕ) (role : Role) → Passed (Heartbeat sender role) → Changes (Heartbeat sender role) (arrived h.time h.epoch n)
  unfolding on_kind with_clock with_current
  heartbeat_changes sender role a =
      let s = a.node_sound in
      let d : sender ≡ n.me → ⊥ = sender_other n.me sender role a.not_this_node in
      let i : sender < n.size = sender_listed n.size sender role a.all_listed in
      let l : sender < length n.records = omega (arith, i, all_records n s, few_nodes n s) in
      let o : n.me < length n.records = omega (arith, me_listed n s, all_records n s, few_nodes n s) in
      record {
        rest = beside n slots bitmap h sender role;
        room = heartbeats.heartbeat_room (arrived h.time h.epoch n) slots bitmap sender h.config role;
        sender_heard = sender_heard n slots bitmap h sender d l o role;
        others = λ k x y. heartbeats.others_kept (arrived h.time h.epoch n) slots bitmap sender h.config role k x y;
        bump = (gave_way n slots bitmap h sender d l o role).0;
        no_bump = (gave_way n slots bitmap h sender d l o role).1;
        slots_claimed = table_after (arrived h.time h.epoch n) slots bitmap sender h.config role;
        reports_kept = refl;
      }

  request_changes : (candidate : ℕ) → Changes (Request candidate) (arrived h.time h.epoch n)
  unfolding on_kind
  request_changes candidate =
      request_cases (arrived h.time h.epoch n) slots bitmap candidate h.epoch h.config (λ (o : Outcome). RequestChanges n slots reports (record { outcome = o; slots = slots; reports = reports }) h candidate)
      (λ a t. record { refused = λ d. refl; granted = λ e. absurd (rw e at t); tables = record { slots_kept = refl; reports_kept = refl } })
      (λ p f. record { refused = λ d. absurd (d refl); granted = λ e. refl; tables = record { slots_kept = refl; reports_kept = refl } })

  ack_changes : (voter candidate : ℕ) → Changes (Ack voter candidate) (arrived h.time h.epoch n)
  unfolding on_kind with_clock with_current
  ack_changes voter candidate =
      ack_cases (arrived h.time h.epoch n) slots voter candidate h.epoch (λ (o : Slotted). AckChanges n slots reports (record { outcome = o.outcome; slots = o.slots; reports = reports }) h voter)
      (λ a t. record { refused = λ d e. (refl, refl); counted = λ e. absurd (rw e at t); won = λ e. absurd (rw e at t); reports_kept = refl })
      (λ opened voters heard w q. record {
        refused = λ d e. absurd (d refl);
        counted = λ e. record { opened = opened; voters = voters; heard = heard; running = w.running; node = refl; slots_kept = refl };
        won = λ e. absurd (omega (arith, e));
        reports_kept = refl;
      })
      (λ opened voters heard w q. record { refused = λ d e. absurd (e refl); counted = λ e. let z : ◌≡◌ {A = ℕ} 0 1 = cc in absurd (omega arith); won = λ e. record { node = refl; slots_pass = refl; told = refl }; reports_kept = refl })

  -- the kinds without an epoch are said with the clock moved, the others with currentEpoch risen too
  kind_changes : (k : Kind) → Passed k → RestFits (layout_of k) h bitmap → Changes k (arrived h.time h.epoch n)
  kind_changes (Heartbeat sender role) a f = heartbeat_changes sender role a
  kind_changes (Report reporter subject said) a f = subst (Changes (Report reporter subject said)) (sym (clock_moves f.1)) (report_changes reporter subject said a)
  kind_changes (Fail sender subject) a f = subst (Changes (Fail sender subject)) (sym (clock_moves f.1)) (fail_changes sender subject)
  kind_changes (Request candidate) a f = request_changes candidate
  kind_changes (Ack voter candidate) a f = ack_changes voter candidate
  kind_changes (Probe subject echo) a f = subst (Changes (Probe subject echo)) (sym (clock_moves f.1)) (probe_changes subject echo)
  kind_changes Tick a f = subst (Changes Tick) (sym (clock_moves f.1)) (tick_changes a)

-- ---- a line

-- what a line's frame carries
fits : (line : List ℕ) (f : Frame) → frame_of line ≡ Some f → Fits f (bitmap_of line)
fits line f e = by (one_line.written_back line)
  where
    by : (frame_of line ≡ None) ⊎ ((g : Frame) × (frame_of line ≡ Some g) × Fits g (bitmap_of line) × (encode g (bitmap_of line) ≡ line)) → Fits f (bitmap_of line)
    by (inl q) = let z : ◌≡◌ {A = ℕ} 0 1 = cc in absurd (omega arith)
    by (inr x) = let q : x.0 ≡ f = cc in subst (λ (g : Frame). Fits g (bitmap_of line)) q x.2

no_frame : (n : Node) (slots reports : ℕ) → ((a : ℕ) → test_for a (refusals n slots reports None) ≡ false) → ⊥
unfolding refusals frame_refusals
no_frame n slots reports p = never (p 2)

pub what_a_line_changes : (n : Node) (slots reports line : List ℕ) → LineChanges n slots reports line
unfolding on_frame
what_a_line_changes n slots reports line =
    past (λ (x : Stepped). (T (turns_away x.outcome.answer) → ⊥) → FrameChanges n slots reports x (bitmap_of line) (frame_of line)) turns_away (turned_away n slots reports) (refusals n (length slots) (length reports) (frame_of line)) (taken_in n slots reports (bitmap_of line) (frame_of line))
    (all_turn_away n (length slots) (length reports) (frame_of line)) (λ a q d. absurd (d (rw q tt))) (λ p d. go (frame_of line) refl p)
  where
    go : (d : Option Frame) → frame_of line ≡ d → ((a : ℕ) → test_for a (refusals n (length slots) (length reports) d) ≡ false) → FrameChanges n slots reports (taken_in n slots reports (bitmap_of line) d) (bitmap_of line) d
    go None e p = absurd (no_frame n (length slots) (length reports) p)
    go (Some f) e p = kind_changes n slots reports (bitmap_of line) f.header f.kind (admitted n (length slots) (length reports) f p) (fits line f e).1

-- ---- an opening, and marks

opening_done : (n : Node) (slots : List ℕ) (time : ℕ) → (opens n slots time).answer ≡ Done → (opens n slots time).node ≡ opening (with_clock time n) slots
opening_done n slots time = open_cases n slots time (λ (o : Outcome). o.answer ≡ Done → o.node ≡ opening (with_clock time n) slots) (λ a t e. absurd (rw e at t)) (λ w a t e. absurd (rw e at t)) (λ w p e. refl)

opening_clock : (n : Node) (slots : List ℕ) (time : ℕ) → ((opens n slots time).answer ≡ Done → ⊥) → (T (turns_away (opens n slots time).answer) → ⊥) → (opens n slots time).node ≡ with_clock time n
unfolding opens with_clock
opening_clock n slots time =
    let P : Outcome → Type 0 = λ o. (o.answer ≡ Done → ⊥) → (T (turns_away o.answer) → ⊥) → o.node ≡ with_clock time n in
    let m = with_clock time n in
    past P turns_away (answered n) (open_refusals n slots time) (standing m slots) refl (λ a q d e. absurd (e (rw q tt))) (λ p.
    past P lets_pass (answered m) (open_checks m slots (role_at m n.me)) _ refl (λ a q d e. refl) (λ q d e. absurd (d refl)))

pub what_an_opening_changes : (n : Node) (slots : List ℕ) (time : ℕ) → OpeningChanges n slots time
what_an_opening_changes n slots time = record { opened = opening_done n slots time; clock_only = opening_clock n slots time }

pub what_marks_change : (n : Node) → MarkChanges n
what_marks_change n = record {
  setting = set_marks_keep n;
  set = λ slots slot move e. ap (λ (o : Outcome). o.node) (set_done n slots slot move e);
  clearing = clear_marks_keep n;
  cleared = λ slot e. ap (λ (o : Outcome). o.node) (clear_done n slot e);
}
