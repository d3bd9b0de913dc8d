-- A line is answered 10 exactly when it is a request whose conditions hold, a slot passes exactly when the frame beats its
-- owner or a win takes it, and the answers of a heartbeat and of a win count what changed.
use Rattle.std.specs.Prelude.{None, Option, Some}
use mathlib.Core.Path.{◌≡◌, refl, sym, ap, subst, ◌∙◌}
use mathlib.Core.Bool.{Bool, true, false, not, cond}
use mathlib.Core.List.{List, [], ◌∷◌}
use Prim.Native.Nat.{ℕ, ◌≤◌, ◌<◌}
use native.Mathlib.Nat.{zero-add}
use native.Mathlib.Omega.{arith}
use lib.Dec.{eqb, leb}
use lib.ListN.{length, get_or}
use borrow.Author.Tests.{eq-eqb, leb-true}
use Rattle.tables.specs.Sizes.{slot_count}
use Rattle.tables.specs.Checks.{checked, all_of}
use Rattle.tables.specs.Lists.{first_at, changed_from}
use Rattle.tables.proofs.Checks.{part}
use Rattle.tables.proofs.Walks.{mapped_at, counts_agree, count_none, first_none}
use Rattle.answers.specs.Answers.{counts, passed, said, number}
use Rattle.answers.specs.declared.Answer.{Answer}
use Rattle.answers.specs.declared.Answer.TheVariants.{Granted, Won}
use Rattle.answers.proofs.Checks.{by_check, past, test_for}
use Rattle.state.specs.Node.{listed}
use Rattle.state.specs.Changes.{with_records, with_clock, with_current, arrived}
use Rattle.state.specs.Outcomes.{Slotted, Stepped}
use Rattle.state.specs.declared.Node.{Node}
use Rattle.state.specs.declared.Outcome.{Outcome}
use Rattle.state.specs.declared.Role.{Role}
use Rattle.state.specs.declared.Role.TheVariants.{Master, Replica}
use Rattle.frames.specs.Frames.{frame_of, bitmap_of}
use Rattle.frames.specs.declared.Header.{Header}
use Rattle.frames.specs.declared.Kind.{Kind}
use Rattle.frames.specs.declared.Kind.TheVariants.{Heartbeat, Report, Fail, Request, Ack, Probe, Tick}
use Rattle.frames.specs.declared.Frame.{Frame}
use Rattle.refusals.specs.Refusals.{refusals, turns_away}
use Rattle.refusals.proofs.Admitted.{Admitted, slots_whole, admitted, passes, all_turn_away}
use Rattle.records.specs.Known.{known_configs}
use Rattle.ownership.specs.Claim.{claimant}
use Rattle.ownership.proofs.Owners.{unowned_goes, unclaimed_stays, claim_laws}
use Rattle.heartbeats.specs.Heartbeats.{with_sender, heartbeat}
use Rattle.heartbeats.proofs.Frame.{slot_passes_exactly_when}
use Rattle.votes.specs.Votes.{requested}
use Rattle.votes.proofs.Steps.{request_cases}
use Rattle.votes.proofs.Exactly.{granted_exactly}
use Rattle.wins.specs.Wins.{yields, handed_over}
use Rattle.wins.proofs.Passing.{from_old_master, yields_if}
use Rattle.acks.specs.Acks.{acked}
use Rattle.acks.specs.Counts.{Wins}
use Rattle.acks.proofs.Steps.{ack_cases}
use Rattle.acks.proofs.Laws.{passing_changed, ack_laws}
use Rattle.kinds.specs.Kinds.{on_kind}
use Rattle.node.specs.Step.{turned_away, taken, taken_in, on_frame}
use Rattle.promises.specs.Claims.{stale_at}
use Rattle.promises.specs.Exactly.{said_to, answer_to, Reads, GrantableLine, GrantedExactly, SlotPassesExactly, UnownedGoesExactly, HeartbeatSays, Winning, Yields, SlotWon, SlotWonExactly, WinSays}
use Rattle.promises.proofs.Sounds.{sender_listed}
use Rattle.promises.proofs.Claims.{claimant_of, stale_lowest}

-- an answer that turns a line away is one of 1 to 8
from_one : (a : Answer) → turns_away a ≡ true → 1 ≤ number a
from_one a e = leb-true 1 (number a) (part 0 (leb 1 (number a) ∷ leb (number a) 8 ∷ []) e)

to_eight : (a : Answer) → turns_away a ≡ true → number a ≤ 8
to_eight a e = leb-true (number a) 8 (part 1 (leb 1 (number a) ∷ leb (number a) 8 ∷ []) e)

-- ---- 10

-- the answer's number 10 is the answer Granted
request_ten : (n : Node) (slots bitmap : List ℕ) (candidate epoch config : ℕ) → number (requested n slots bitmap candidate epoch config).answer ≡ 10 → (requested n slots bitmap candidate epoch config).answer ≡ Granted
request_ten n slots bitmap candidate epoch config =
    request_cases n slots bitmap candidate epoch config (λ (o : Outcome). number o.answer ≡ 10 → o.answer ≡ Granted) (λ a t e. absurd (rw e at t)) (λ p f e. refl)

ack_no_ten : (n : Node) (slots : List ℕ) (voter candidate epoch : ℕ) → number (acked n slots voter candidate epoch).outcome.answer ≡ 10 → ⊥
ack_no_ten n slots voter candidate epoch =
    ack_cases n slots voter candidate epoch (λ (o : Slotted). number o.outcome.answer ≡ 10 → ⊥) (λ a t e. rw e at t) (λ o v h w m e. omega (arith, e)) (λ o v h w m e. omega (arith, e))

heard_no_ten : (n : Node) (slots bitmap : List ℕ) (sender : ℕ) (role : Role) (config : ℕ) → number (heartbeat n slots bitmap sender role config).outcome.answer ≡ 10 → ⊥
unfolding heartbeat
heard_no_ten n slots bitmap sender Master config e = omega (arith, e)
heard_no_ten n slots bitmap sender (Replica m) config e = omega (arith, e)

-- of what passes, a request alone is answered 10
pub record Asks (n : Node) (slots bitmap : List ℕ) (h : Header) (k : Kind) : Type 0 where
  pub candidate : ℕ
  pub request : k ≡ Request candidate
  pub answer : (requested n slots bitmap candidate h.epoch h.config).answer ≡ Granted

kind_ten : (n : Node) (slots reports bitmap : List ℕ) (h : Header) (k : Kind) → number (on_kind n slots reports bitmap h k).outcome.answer ≡ 10 → Asks n slots bitmap h k
unfolding on_kind
kind_ten n slots reports bitmap h (Heartbeat sender role) e = absurd (heard_no_ten n slots bitmap sender role h.config e)
kind_ten n slots reports bitmap h (Report reporter subject said) e = absurd (omega (arith, e))
kind_ten n slots reports bitmap h (Fail sender subject) e = absurd (omega (arith, e))
kind_ten n slots reports bitmap h (Request candidate) e = record { candidate = candidate; request = refl; answer = request_ten n slots bitmap candidate h.epoch h.config e }
kind_ten n slots reports bitmap h (Ack voter candidate) e = absurd (ack_no_ten n slots voter candidate h.epoch e)
kind_ten n slots reports bitmap h (Probe subject echo) e = absurd (omega (arith, e))
kind_ten n slots reports bitmap h Tick e = absurd (omega (arith, e))

module _ (n : Node) (slots reports line : List ℕ) where
  abbrev rows : Option Frame → List (Bool × Answer)
  rows d = refusals n (length slots) (length reports) d

  ten : answer_to n slots reports line ≡ 10 → GrantableLine n slots reports line
  unfolding on_frame
  ten =
      past (λ (x : Stepped). number x.outcome.answer ≡ 10 → GrantableLine n slots reports line) turns_away (turned_away n slots reports) (rows (frame_of line)) (taken_in n slots reports (bitmap_of line) (frame_of line))
      (all_turn_away n (length slots) (length reports) (frame_of line)) (λ a q e. absurd (omega (arith, e, to_eight a q))) (go (frame_of line) refl)
    where
      go : (d : Option Frame) → frame_of line ≡ d → ((a : ℕ) → test_for a (rows d) ≡ false) → number (taken_in n slots reports (bitmap_of line) d).outcome.answer ≡ 10 → GrantableLine n slots reports line
      go None q p e = absurd (omega (arith, e))
      go (Some f) q p e =
          let m = arrived f.header.time f.header.epoch n in
          let a = kind_ten m slots reports (bitmap_of line) f.header f.kind e in
          record {
            header = f.header;
            candidate = a.candidate;
            request = q ∙ ap (λ (k : Kind). Some (record { header = f.header; kind = k })) a.request;
            passes = rw q (passes n (length slots) (length reports) f (admitted n (length slots) (length reports) f p));
            conditions = (granted_exactly m slots (bitmap_of line) a.candidate f.header.epoch f.header.config).0 a.answer;
          }

  granted : GrantableLine n slots reports line → answer_to n slots reports line ≡ 10
  unfolding on_frame on_kind
  granted g =
      let h = g.header in
      rw (by_check, g.passes, g.request)
      (ap number ((granted_exactly (arrived h.time h.epoch n) slots (bitmap_of line) g.candidate h.epoch h.config).1 g.conditions))

  pub granted_exactly_on_lines : GrantedExactly n slots reports line
  granted_exactly_on_lines = record { if = granted; only_if = ten }

-- ---- a line that is not turned away

-- its frame is admitted, and done
module _ (n : Node) (slots reports bitmap : List ℕ) (f : Frame) where
  abbrev stepped : Option Frame → Stepped
  stepped d = checked (turned_away n slots reports) (refusals n (length slots) (length reports) d) (taken_in n slots reports bitmap d)

  pub record Taken (x : Stepped) : Type 0 where
    pub goes_in : Admitted n (length slots) (length reports) f
    pub step : x ≡ taken n slots reports bitmap f

  good_taken : (turns_away (stepped (Some f)).outcome.answer ≡ true → ⊥) → Taken (stepped (Some f))
  good_taken =
      past (λ (x : Stepped). (turns_away x.outcome.answer ≡ true → ⊥) → Taken x) turns_away (turned_away n slots reports) (refusals n (length slots) (length reports) (Some f)) (taken_in n slots reports bitmap (Some f))
      (all_turn_away n (length slots) (length reports) (Some f)) (λ a q e. absurd (e q))
      (λ p e. record { goes_in = admitted n (length slots) (length reports) f p; step = refl })

module _ (n : Node) (slots reports line : List ℕ) (h : Header) (k : Kind) (q : Reads n slots reports line h k) where
  abbrev LineTaken : Type 0
  LineTaken = Taken n slots reports (bitmap_of line) (record { header = h; kind = k }) (on_frame n slots reports line)

  line_taken : (turns_away (on_frame n slots reports line).outcome.answer ≡ true → ⊥) → LineTaken
  unfolding on_frame
  line_taken a =
      let f : Frame = record { header = h; kind = k } in
      let on : on_frame n slots reports line ≡ stepped n slots reports (bitmap_of line) f (Some f) = ap (stepped n slots reports (bitmap_of line) f) q in
      subst (Taken n slots reports (bitmap_of line) f) (sym on) (good_taken n slots reports (bitmap_of line) f (λ e. a (ap (λ (x : Stepped). turns_away x.outcome.answer) on ∙ e)))

  zero_taken : answer_to n slots reports line ≡ 0 → LineTaken
  zero_taken a = line_taken (λ e. omega (arith, a, from_one (on_frame n slots reports line).outcome.answer e))

  won_taken : answer_to n slots reports line ≡ 30 → LineTaken
  won_taken a = line_taken (λ e. omega (arith, a, to_eight (on_frame n slots reports line).outcome.answer e))

-- ---- a slot that is claimed

module _ (n : Node) (slots reports line : List ℕ) where
  pub slot_passes_exactly_on_lines : SlotPassesExactly n slots reports line
  unfolding on_kind with_clock with_current
  slot_passes_exactly_on_lines h sender q a s l o d =
      let z = zero_taken n slots reports line h (Heartbeat sender Master) q a in
      let w = slots_whole (length slots) (length reports) z.goes_in.lengths in
      let g = slot_passes_exactly_when (arrived h.time h.epoch n) slots (bitmap_of line) sender h.config s (omega (arith, w, l)) o d in
      let e = ap (λ (x : Stepped). get_or x.slots s 0) z.step in
      record {
        if = λ b. e ∙ g.if (b.claims, b.above);
        only_if = λ b. let r = g.only_if (sym e ∙ b) in record { claims = r.0; above = r.1 };
        otherwise = λ b. e ∙ g.otherwise (λ r. b (record { claims = r.0; above = r.1 }));
      }

  pub unowned_goes_exactly_on_lines : UnownedGoesExactly n slots reports line
  unfolding on_kind heartbeat with_sender with_records with_clock with_current
  unowned_goes_exactly_on_lines h sender q a s l o =
      let z = zero_taken n slots reports line h (Heartbeat sender Master) q a in
      let m = with_sender sender Master h.config (arrived h.time h.epoch n) in
      let c = claimant (known_configs m.size m.records) m.size sender h.config in
      let w : s < length slots = omega (arith, slots_whole (length slots) (length reports) z.goes_in.lengths, l) in
      let e = ap (λ (x : Stepped). get_or x.slots s 0) z.step in
      record { if = λ b. e ∙ unowned_goes c (bitmap_of line) slots s w o b; otherwise = λ b. e ∙ unclaimed_stays c (bitmap_of line) slots s w b }

-- ---- what a heartbeat's answer says

-- a table holds no entry that differs from itself
none_changed : (such : ℕ → Bool) (slots : List ℕ) → changed_from such slots slots ≡ 0
none_changed such slots =
    counts_agree (λ s o. all_of (such o ∷ not (eqb o (get_or slots s 0)) ∷ [])) (λ s o. false) 0 0 slots (λ k h. rw (zero-add k) (same (such (get_or slots k 0)) (get_or slots k 0)))
    ∙ count_none (λ (s o : ℕ). false) 0 slots (λ k x h g. refl)
  where
    same : (b : Bool) (x : ℕ) → all_of (b ∷ not (eqb x x) ∷ []) ≡ false
    same true x = rw (eq-eqb x x refl)
    same false x = refl

abbrev Counted : Node → List ℕ → List ℕ → ℕ → Role → ℕ → Slotted → Type 0
Counted n slots bitmap sender role config x =
    said x.outcome.answer ≡ record {
      number = 0;
      values = counts (changed_from (λ o. not (listed n o)) slots x.slots) (changed_from (listed n) slots x.slots) (first_at (stale_at n bitmap sender role config) slots);
    }

-- past the refusals: the claim's own counts, of a replica none
says : (n : Node) (slots bitmap : List ℕ) (sender : ℕ) (role : Role) (config : ℕ) → sender < n.size → Counted n slots bitmap sender role config (heartbeat n slots bitmap sender role config)
unfolding heartbeat with_sender with_records
says n slots bitmap sender Master config l =
    let laws = claim_laws (claimant_of n sender config) bitmap slots in
    let b = laws.bound l in
    let r = laws.rebound in
    let s = stale_lowest n slots bitmap sender config in
    λ i. record { number = 0; values = counts (b i) (r i) (s i) }
says n slots bitmap sender (Replica m) config l =
    let b = sym (none_changed (λ o. not (listed n o)) slots) in
    let r = sym (none_changed (listed n) slots) in
    let s = sym (first_none (λ (s o : ℕ). false) 0 slots (λ k x h g. refl)) in
    λ i. record { number = 0; values = counts (b i) (r i) (s i) }

pub heartbeat_says : (n : Node) (slots reports line : List ℕ) → HeartbeatSays n slots reports line
unfolding on_kind with_clock with_current
heartbeat_says n slots reports line h sender role q a =
    let z = zero_taken n slots reports line h (Heartbeat sender role) q a in
    let m = arrived h.time h.epoch n in
    subst (λ (x : Stepped). Counted n slots (bitmap_of line) sender role h.config (record { outcome = x.outcome; slots = x.slots })) (sym z.step) (says m slots (bitmap_of line) sender role h.config (sender_listed n.size sender role z.goes_in.all_listed))

-- ---- a slot that is won

module _ (n : Node) (slots reports line : List ℕ) (h : Header) (x : Winning n slots reports line h) where
  done : LineTaken n slots reports line h (Ack x.voter x.candidate) x.ack
  done = won_taken n slots reports line h (Ack x.voter x.candidate) x.ack x.answer

  win : let m = arrived h.time h.epoch n in Wins m slots x.voter x.candidate h.epoch (acked m slots x.voter x.candidate h.epoch)
  unfolding on_kind
  win = (ack_laws (arrived h.time h.epoch n) slots x.voter x.candidate h.epoch).wins (ap (λ (y : Stepped). number y.outcome.answer) (sym done.step) ∙ x.answer)

  table : (on_frame n slots reports line).slots ≡ (handed_over (yields n h.epoch) n.me slots).slots
  unfolding on_kind with_clock with_current
  table = ap (λ (y : Stepped). y.slots) done.step ∙ win.slots_pass

  yielded : (s : ℕ) → yields n h.epoch (get_or slots s 0) ≡ true → Yields n slots reports line h.epoch s
  yielded s e = let p = from_old_master n h.epoch (get_or slots s 0) e in record { old_master = p.0; below = p.1 }

  slot_won : (s : ℕ) → s < slot_count → (get_or slots s 0 ≡ n.me → ⊥) → SlotWon n slots reports line h.epoch s
  slot_won s l d = record {
    if = λ y. entry ∙ rw (yields_if n h.epoch (get_or slots s 0) y.old_master y.below);
    only_if = λ e. by (yields n h.epoch (get_or slots s 0)) refl (λ g. yielded s g) (λ g. absurd (d (sym (entry ∙ rw g) ∙ e)));
    otherwise = λ f. entry ∙ by (yields n h.epoch (get_or slots s 0)) refl (λ g. absurd (f (yielded s g))) (λ g. rw g);
  }
    where
      w : length slots ≡ slot_count
      w = slots_whole (length slots) (length reports) done.goes_in.lengths

      entry : get_or (on_frame n slots reports line).slots s 0 ≡ cond (yields n h.epoch (get_or slots s 0)) n.me (get_or slots s 0)
      entry = ap (λ (t : List ℕ). get_or t s 0) table ∙ mapped_at (λ s owner. cond (yields n h.epoch owner) n.me owner) 0 slots s 0 0 (omega (arith, w, l))

      by : {A : Type 0} (b : Bool) → yields n h.epoch (get_or slots s 0) ≡ b → (yields n h.epoch (get_or slots s 0) ≡ true → A) → (yields n h.epoch (get_or slots s 0) ≡ false → A) → A
      by true e f g = f e
      by false e f g = g e

  said_so : said_to n slots reports line ≡ record { number = 30; values = passed (changed_from (λ owner. true) slots (on_frame n slots reports line).slots) }
  unfolding on_kind with_clock with_current
  said_so =
      ap said (ap (λ (y : Stepped). y.outcome.answer) done.step ∙ win.told)
      ∙ ap (λ (k : ℕ). said (Won k)) (passing_changed n slots h.epoch done.goes_in.node_sound)
      ∙ ap (λ (t : List ℕ). said (Won (changed_from (λ owner. true) slots t))) (sym table)

pub slot_won_exactly_on_lines : (n : Node) (slots reports line : List ℕ) → SlotWonExactly n slots reports line
slot_won_exactly_on_lines n slots reports line h x s l d = slot_won n slots reports line h x s l d

pub win_says : (n : Node) (slots reports line : List ℕ) → WinSays n slots reports line
win_says n slots reports line h x = said_so n slots reports line h x
