-- Each call of the node moves what demand 3 looks at as its deed says.
use Rattle.std.specs.Prelude.{None, Option, Some}
use mathlib.Core.Path.{◌≡◌, refl, sym, ap, ◌∙◌}
use mathlib.Core.Logic.{◌⊎◌, inl, inr}
use mathlib.Core.Bool.{Bool, true, false, cond, not, ◌||◌}
use mathlib.Core.List.{List, [], ◌∷◌}
use Prim.Native.Nat.{ℕ, ◌<◌}
use native.Mathlib.Decide.{ℕ_discrete}
use lib.Dec.{eqb, ltb, leb, T}
use lib.ListN.{length}
use borrow.Author.Tests.{eqb-true, eqb-false, eq-eqb, ne_eqb, leb-false}
use Rattle.tables.specs.Sizes.{node_room}
use Rattle.tables.specs.Checks.{all_of}
use Rattle.tables.proofs.Checks.{none as none_of}
use Rattle.nodesets.specs.NodeSets.{has, added}
use Rattle.nodesets.specs.declared.NodeSet.{NodeSet}
use Rattle.nodesets.proofs.Members.{in_room_lem, in_added}
use Rattle.answers.specs.Answers.{number}
use Rattle.answers.specs.declared.Answer.{Answer}
use Rattle.answers.specs.declared.Answer.TheVariants.{Done}
use Rattle.answers.proofs.Checks.{refuses, refusals_pass, test_for, past}
use Rattle.state.specs.Node.{record_at, role_at, master_at, is_master, owns}
use Rattle.state.specs.Changes.{with_clock, with_current, with_voted, with_election, with_records, with_marks, arrived}
use Rattle.state.specs.Outcomes.{answered, Slotted, Stepped}
use Rattle.state.specs.declared.Node.{Node}
use Rattle.state.specs.declared.Outcome.{Outcome}
use Rattle.state.specs.declared.Role.{Role}
use Rattle.state.specs.declared.Role.TheVariants.{Master, Replica}
use Rattle.state.specs.declared.Election.{Election}
use Rattle.soundness.specs.Sound.{sound}
use Rattle.soundness.proofs.Facts.{few_nodes, all_records}
use Rattle.soundness.proofs.Keeps.{Keeps}
use Rattle.marks.specs.Marks.{ButMarks}
use Rattle.marks.proofs.Kept.{set_marks_keep, clear_marks_keep}
use Rattle.frames.specs.Frames.{frame_of, bitmap_of}
use Rattle.frames.specs.declared.Header.{Header}
use Rattle.frames.specs.declared.Kind.{Kind}
use Rattle.frames.specs.declared.Kind.TheVariants.{Heartbeat, Report, Fail, Request, Ack, Probe, Tick}
use Rattle.refusals.specs.Refusals.{is_unlisted, names_this_node, frame_refusals, refusals}
use Rattle.refusals.proofs.Admitted.{admitted, arrives}
use Rattle.failure.specs.Keeps.{Kept}
use Rattle.failure.proofs.Keeps.{me_kept, master_kept}
use Rattle.probes.proofs.Keeps.{probed_kept, ticked_kept}
use Rattle.reports.proofs.Keeps.{reported_kept, failed_kept}
use Rattle.heartbeats.specs.Heartbeats.{heartbeat}
use Rattle.heartbeats.proofs.Frame.{heartbeat_keeps, heartbeat_lists}
use Rattle.votes.specs.Votes as votes
use Rattle.votes.specs.Votes.{requested}
use Rattle.votes.proofs.Steps.{request_cases}
use Rattle.votes.proofs.Laws.{vote_keeps}
use Rattle.openings.proofs.Steps.{open_cases}
use Rattle.openings.specs.NewElection.{NewElection}
use Rattle.openings.proofs.Laws.{opening_new, opening_keeps, opening_voted}
use Rattle.acks.specs.Acks.{acked, promoted}
use Rattle.acks.specs.Counts as acks
use Rattle.acks.proofs.Steps.{ack_cases}
use Rattle.acks.proofs.Laws.{ack_keeps, won_most}
use Rattle.kinds.specs.Kinds.{on_kind}
use Rattle.node.specs.Step.{turned_away, taken_in, on_frame}
use Rattle.node.specs.Calls.{Tables, Call, frame, opening, setting, clearing, outcome}
use Rattle.safety.specs.Deeds.{Deed, other}
use Rattle.safety.specs.Calls.{kind_deed, frame_deed, deed_of, deed}
use Rattle.frames.specs.declared.Frame.{Frame}
use Rattle.safety.proofs.Life.{View, Poll, closed, running, Hears, Moves}

-- ---- what demand 3 looks at in a node

abbrev pub poll_of : Option Election → Poll
poll_of None = closed
poll_of (Some e) = running e.epoch (has e.voters) (has e.heard)

-- the others that are recorded as masters
abbrev pub other_master : Node → ℕ → Bool
other_master n k = cond (eqb k n.me) false (master_at n k)

abbrev pub view : Node → View
view n = record { last_vote = n.voted; poll = poll_of n.election; masters = other_master n }

-- node n became n' by a deed: it keeps its number, and what is looked at moves as the deed says
pub record Follows (n : Node) (d : Deed) (n' : Node) : Type 0 where
  pub me : n'.me ≡ n.me
  pub moves : Moves node_room n.me (view n) d (view n')

-- ---- a call that comes to nothing

-- an answer that is none of 0, 10 and 30 is no deed
apart : (x y z : Bool) → T (all_of (not x ∷ not y ∷ not z ∷ [])) → (x ≡ false) × (y ≡ false) × (z ≡ false)
apart true y z t = absurd t
apart false true z t = absurd t
apart false false true t = absurd t
apart false false false t = (refl, refl, refl)

neither : (a : Answer) → T (refuses a) → (eqb (number a) 0 ≡ false) × (eqb (number a) 10 ≡ false) × (eqb (number a) 30 ≡ false)
neither a t = apart (eqb (number a) 0) (eqb (number a) 10) (eqb (number a) 30) t

no_deed : (h : Header) (k : Kind) (a : Answer) → T (refuses a) → kind_deed h k (number a) ≡ other
no_deed h (Heartbeat sender role) a t = rw (neither a t).0
no_deed h (Report reporter subject verdict) a t = refl
no_deed h (Fail sender subject) a t = refl
no_deed h (Request candidate) a t = rw (neither a t).1
no_deed h (Ack voter candidate) a t = rw ((neither a t).2, (neither a t).0)
no_deed h (Probe subject echo) a t = refl
no_deed h Tick a t = refl

-- node n became n', which looks the same
record Alike (n n' : Node) : Type 0 where
  me : n'.me ≡ n.me
  voted : n'.voted ≡ n.voted
  election : n'.election ≡ n.election
  masters : (k : ℕ) → master_at n' k ≡ master_at n k

rests : (n n' : Node) → Alike n n' → Follows n other n'
rests n n' a = record {
  me = a.me;
  moves = record { poll = inl (ap poll_of a.election); vote = a.voted; masters = λ k. rw (a.me, a.masters k) };
}

alike : (n : Node) → Alike n n
alike n = record { me = refl; voted = refl; election = refl; masters = λ k. refl }

failure_alike : (n n' : Node) → Kept n n' → Alike n n'
unfolding with_records
failure_alike n n' k = record {
  me = me_kept n n' k;
  voted = ap (λ (x : Node). x.voted) k.rest;
  election = ap (λ (x : Node). x.election) k.rest;
  masters = master_kept n n' k;
}

marks_alike : (n n' : Node) → ButMarks n n' → Alike n n'
unfolding with_marks
marks_alike n n' b = record {
  me = ap (λ (x : Node). x.me) b;
  voted = ap (λ (x : Node). x.voted) b;
  election = ap (λ (x : Node). x.election) b;
  masters = λ k. ap (λ (x : Node). master_at x k) b;
}

-- ---- the kinds, past the refusals, with clock and currentEpoch risen

-- past check 3 a heartbeat's sender is in the roster, and past check 6 it is another node
sender_listed : (size sender : ℕ) (role : Role) → is_unlisted size (Heartbeat sender role) ≡ false → sender < size
sender_listed size sender Master l = leb-false size sender l
sender_listed size sender (Replica m) l = leb-false size sender (none_of 0 (leb size sender ∷ leb size m ∷ []) l)

sender_another : (me sender : ℕ) (role : Role) → names_this_node me (Heartbeat sender role) ≡ false → me ≡ sender → ⊥
sender_another me sender Master d = eqb-false me sender (none_of 0 (eqb me sender ∷ false ∷ []) d)
sender_another me sender (Replica m) d = eqb-false me sender (none_of 0 (eqb me sender ∷ false ∷ []) d)

module _ (n : Node) where
  -- what is to be shown of a frame's outcome
  abbrev Shown : Header → Kind → Outcome → Type 0
  Shown h k o = Follows n (kind_deed h k (number o.answer)) o.node

  refused : (h : Header) (k : Kind) (a : Answer) → T (refuses a) → Shown h k (answered n a)
  refused h k a t = rw (no_deed h k a t) (rests n n (alike n))

  -- a heartbeat is always answered 0
  heard_zero : (slots bitmap : List ℕ) (sender : ℕ) (role : Role) (config : ℕ) → number (heartbeat n slots bitmap sender role config).outcome.answer ≡ 0
  unfolding heartbeat
  heard_zero slots bitmap sender Master config = refl
  heard_zero slots bitmap sender (Replica m) config = refl

  heartbeat_good : (slots bitmap : List ℕ) (h : Header) (sender : ℕ) (role : Role) → sound n ≡ true → sender < n.size → (n.me ≡ sender → ⊥)
      → Shown h (Heartbeat sender role) (heartbeat n slots bitmap sender role h.config).outcome
  unfolding with_records with_current
  heartbeat_good slots bitmap h sender role s l d =
      let k = heartbeat_keeps n slots bitmap sender h.config role in
      let same : (heartbeat n slots bitmap sender role h.config).outcome.node.me ≡ n.me = ap (λ (x : Node). x.me) k in
      rw (heard_zero slots bitmap sender role h.config) (record {
        me = same;
        moves = record {
          another = λ e. d (sym e);
          poll = inl (ap (λ (x : Node). poll_of x.election) k);
          vote = ap (λ (x : Node). x.voted) k;
          masters = λ j. rw (same, heartbeat_lists n slots bitmap sender h.config role l (few_nodes n s) (all_records n s) j) (listed j);
        };
      })
    where
      listed : (j : ℕ) → cond (eqb j n.me) false (cond (eqb j sender) (is_master role) (master_at n j)) ≡ cond (eqb sender j) (is_master role) (other_master n j)
      listed j = go (ℕ_discrete j sender)
        where
          go : Dec (j ≡ sender) → cond (eqb j n.me) false (cond (eqb j sender) (is_master role) (master_at n j)) ≡ cond (eqb sender j) (is_master role) (other_master n j)
          go (yes e) = rw (eq-eqb j sender e, eq-eqb sender j (sym e), ne_eqb j n.me (λ q. d (sym q ∙ e)))
          go (no f) = rw (ne_eqb j sender f, ne_eqb sender j (λ q. f (sym q)))

  -- what keeps the others' roles keeps the view's masters
  others : (n' : Node) → Keeps n n' → (k : ℕ) → other_master n' k ≡ other_master n k
  others n' h k = rw h.me (go (ℕ_discrete k n.me))
    where
      go : Dec (k ≡ n.me) → cond (eqb k n.me) false (master_at n' k) ≡ other_master n k
      go (yes e) = rw (eq-eqb k n.me e)
      go (no f) = rw (h.others k f)

  request_good : (slots bitmap : List ℕ) (h : Header) (candidate : ℕ) → Shown h (Request candidate) (requested n slots bitmap candidate h.epoch h.config)
  unfolding votes.granted with_voted with_records
  request_good slots bitmap h candidate =
      request_cases n slots bitmap candidate h.epoch h.config (λ (o : Outcome). Keeps n o.node → Shown h (Request candidate) o)
      (λ a t k. refused h (Request candidate) a t)
      (λ p q k. record { me = k.me; moves = record { newer = leb-false h.epoch n.voted (p 13); vote = refl; poll = inl refl; masters = others _ k } })
      (vote_keeps n slots bitmap candidate h.epoch h.config)

  -- a voter more is heard, and no other
  one_more : (heard voters : NodeSet) (voter : ℕ) → has voters voter ≡ true → (k : ℕ) → has (added heard voter) k ≡ true → (k ≡ voter) ⊎ (has heard k ≡ true)
  one_more heard voters voter v k h = go (has heard k) (sym (in_added heard voter k (in_room_lem voters voter v)) ∙ h)
    where
      go : (a : Bool) → (a || eqb k voter) ≡ true → (k ≡ voter) ⊎ (a ≡ true)
      go true e = inr refl
      go false e = inl (eqb-true k voter e)

  hears : (voter candidate epoch opened : ℕ) (voters heard : NodeSet) → acks.Hears n voter candidate epoch opened voters heard
      → Hears voter epoch (poll_of n.election) (has voters) (has (added heard voter))
  hears voter candidate epoch opened voters heard h = record { before = has heard; runs = ap poll_of h.running; voter = h.voter_in; more = one_more heard voters voter h.voter_in }

  ack_good : (slots : List ℕ) (h : Header) (voter candidate : ℕ) → sound n ≡ true → Shown h (Ack voter candidate) (acked n slots voter candidate h.epoch).outcome
  unfolding with_election with_records promoted
  ack_good slots h voter candidate s =
      ack_cases n slots voter candidate h.epoch (λ (o : Slotted). Keeps n o.outcome.node → Shown h (Ack voter candidate) o.outcome)
      (λ a t k. refused h (Ack voter candidate) a t)
      (λ opened voters heard w m k. record {
        me = k.me;
        moves = record {
          set = has voters;
          heard = has (added heard voter);
          hears = hears voter candidate h.epoch opened voters heard w;
          poll = refl;
          vote = refl;
          masters = others _ k;
        };
      })
      (λ opened voters heard w m k. record {
        me = k.me;
        moves = record {
          set = has voters;
          heard = has (added heard voter);
          hears = hears voter candidate h.epoch opened voters heard w;
          most = won_most n voter candidate h.epoch opened voters heard s w m;
          poll = refl;
          vote = refl;
          masters = others _ k;
        };
      })
      (ack_keeps n slots voter candidate h.epoch)

  kind_good : (slots reports bitmap : List ℕ) (h : Header) (k : Kind) → sound n ≡ true → is_unlisted n.size k ≡ false → names_this_node n.me k ≡ false → Shown h k (on_kind n slots reports bitmap h k).outcome
  unfolding on_kind
  kind_good slots reports bitmap h (Heartbeat sender role) s l d = heartbeat_good slots bitmap h sender role s (sender_listed n.size sender role l) (sender_another n.me sender role d)
  kind_good slots reports bitmap h (Report reporter subject verdict) s l d = rests n _ (failure_alike n _ (reported_kept n slots reports reporter subject verdict))
  kind_good slots reports bitmap h (Fail sender subject) s l d = rests n _ (failure_alike n _ (failed_kept n subject))
  kind_good slots reports bitmap h (Request candidate) s l d = request_good slots bitmap h candidate
  kind_good slots reports bitmap h (Ack voter candidate) s l d = ack_good slots h voter candidate s
  kind_good slots reports bitmap h (Probe subject echo) s l d = rests n _ (failure_alike n _ (probed_kept n slots subject echo))
  kind_good slots reports bitmap h Tick s l d = rests n _ (failure_alike n _ (ticked_kept n slots reports))

-- ---- a frame's line

-- no refusal is answered 0, 10 or 30
all_refuse : (n : Node) (slots reports : ℕ) (d : Option Frame) → refusals_pass refuses (refusals n slots reports d) ≡ true
unfolding refusals frame_refusals
all_refuse n slots reports None = refl
all_refuse n slots reports (Some f) = refl

frame_good : (n : Node) (t : Tables) (line : List ℕ) → Follows n (deed n t (frame line)) (outcome n t (frame line)).node
unfolding on_frame with_clock with_current
frame_good n t line =
    past (P (frame_of line)) refuses (turned_away n t.slots t.reports) (refusals n long times (frame_of line)) _ (all_refuse n long times (frame_of line))
    (λ a e. away (frame_of line) a (rw e tt)) (onward (frame_of line))
  where
    -- the lengths of the tables
    long : ℕ
    long = length t.slots

    times : ℕ
    times = length t.reports

    P : Option Frame → Stepped → Type 0
    P d x = Follows n (frame_deed d (number x.outcome.answer)) x.outcome.node

    away : (d : Option Frame) (a : Answer) → T (refuses a) → P d (turned_away n t.slots t.reports a)
    away None a w = rests n n (alike n)
    away (Some f) a w = refused n f.header f.kind a w

    onward : (d : Option Frame) → ((a : ℕ) → test_for a (refusals n long times d) ≡ false) → P d (taken_in n t.slots t.reports (bitmap_of line) d)
    onward None p = rests n n (alike n)
    onward (Some f) p =
        let w = admitted n long times f p in
        let h = f.header in
        let x = kind_good (arrived h.time h.epoch n) t.slots t.reports (bitmap_of line) h f.kind (arrives n long times f w) w.all_listed w.not_this_node in
        record { me = x.me; moves = x.moves }

-- ---- an opening

-- a node that may open is a replica, so it is none of the masters that it lists
no_master : (n : Node) → is_master (role_at n n.me) ≡ false → master_at n n.me ≡ false
no_master n e = go (ltb n.me n.size) e
  where
    go : (t : Bool) → is_master (cond t (record_at n n.me).role Master) ≡ false → cond t (is_master (record_at n n.me).role) false ≡ false
    go true h = h
    go false h = refl

opening_good : (n : Node) (t : Tables) (time : ℕ) → Follows n (deed n t (opening time)) (outcome n t (opening time)).node
unfolding with_clock
opening_good n t time =
    open_cases n t.slots time (λ (o : Outcome). (o.answer ≡ Done → NewElection t.slots n o.node) → Keeps n o.node → o.node.voted ≡ n.voted → P o)
    (λ a r e h v. rw (neither a r).0 (rests n n (alike n)))
    (λ w a r e h v. rw (neither a r).0 (rests n (with_clock time n) (record { me = refl; voted = refl; election = refl; masters = λ k. refl })))
    (λ w p e h v. let x = e refl in record {
      me = h.me;
      moves = record {
        epoch = x.epoch;
        set = has x.voters;
        heard = has x.heard;
        poll = ap poll_of x.election;
        voters = λ k. x.voting k ∙ ap (λ (m : Bool). all_of (m ∷ owns t.slots k ∷ [])) (only k (no_master n (p 24)) (ℕ_discrete k n.me));
        none = x.unheard;
        vote = v;
        masters = others n _ h;
      };
    })
    (opening_new n t.slots time)
    (opening_keeps n t.slots time)
    (opening_voted n t.slots time)
  where
    P : Outcome → Type 0
    P o = Follows n (deed_of t (opening time) (number o.answer)) o.node

    only : (k : ℕ) → master_at n n.me ≡ false → Dec (k ≡ n.me) → master_at n k ≡ other_master n k
    only k m (yes e) = rw (e, m, eq-eqb n.me n.me refl)
    only k m (no f) = rw (ne_eqb k n.me f)

-- ---- every call

pub each_call : (n : Node) (t : Tables) (c : Call) → Follows n (deed n t c) (outcome n t c).node
each_call n t (frame line) = frame_good n t line
each_call n t (opening time) = opening_good n t time
each_call n t (setting slot move) = rests n _ (marks_alike n _ (set_marks_keep n t.slots slot move))
each_call n t (clearing slot) = rests n _ (marks_alike n _ (clear_marks_keep n slot))
