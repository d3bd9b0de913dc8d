-- A feed is a list of calls, so that what holds of every list of calls holds of feeds.
use mathlib.Core.Path.{◌≡◌, refl, sym, ap, subst, ◌∙◌}
use mathlib.Core.Bool.{Bool, true, false, cond}
use mathlib.Core.List.{List, [], ◌∷◌, ◌++◌, append-nil, append_assoc, map, map-append, flatten}
use Prim.Native.Nat.{ℕ}
use lib.Dec.{eqb}
use lib.ListN.{get_or, drop}
use borrow.Author.Tests.{eq-eqb, ne_eqb}
use Rattle.tables.specs.Lists.{newline}
use Rattle.answers.specs.declared.Answer.{Answer}
use Rattle.answers.specs.declared.Answer.TheVariants.{Done}
use Rattle.state.specs.Outcomes.{Stepped}
use Rattle.state.specs.declared.Node.{Node}
use Rattle.soundness.specs.Sound.{sound}
use Rattle.node.specs.Step.{on_frame}
use Rattle.node.specs.Calls.{Tables, Call, frame, outcome}
use Rattle.promises.proofs.Sounds.{every_call_keeps_sound}
use Rattle.safety.specs.Demand3.{Roster, Made, state_of}
use Rattle.monotone.specs.Runs.{World, after, run}
use Rattle.sameness.specs.Sameness.{ActAlike, LentCall}
use Rattle.scraps.specs.Scraps.{Line, short, long}
use Rattle.feed.specs.Feed.{Station, on_line, ends}
use Rattle.feed.proofs.Lines.{empty_is_long}
use Rattle.streams.specs.Streams.{heard, on_byte, stream}
use Rattle.feedlaws.specs.Calls.{frame_for, call_of, made, calls, answers_to, FeedsAreCalls, world_of, FeedsAreRuns, FeedsKeepSound, HeardAlike, FedAlike}
use Rattle.streams.proofs.Streams.{by_test, cut_anywhere}

-- a line is answered as the frame that it counts as
frame_for_lem : (n : Node) (slots reports : List ℕ) (line : Line) → on_frame n slots reports (frame_for line) ≡ on_line n slots reports line
frame_for_lem n slots reports (short line) = refl
frame_for_lem n slots reports long = empty_is_long n slots reports

-- ---- demand 3's lists

-- a byte's call, by whether it is a newline
abbrev made_by : Bool → ℕ → Station → List Made
made_by t v s = cond t (call_of v s ∷ []) []

module _ (r : Roster) (timeouts : ℕ → ℕ) where
  -- answers of calls after calls
  answers_append : (before later earlier : List Made) → answers_to r timeouts before (later ++ earlier) ≡ answers_to r timeouts before earlier ++ answers_to r timeouts (earlier ++ before) later
  unfolding answers_to
  answers_append before [] earlier = rw append-nil
  answers_append before (m ∷ later) earlier = rw (answers_append before later earlier, append_assoc later earlier before, append_assoc)

  module _ (before : List Made) (v : ℕ) (s : Station) (h : state_of r timeouts before v ≡ s.node) where
    -- one byte
    state_after_lem : (b : ℕ) → state_of r timeouts (made v s b ++ before) v ≡ (on_byte s b).after.node
    state_after_lem b = go (eqb b newline)
      where
        go : (t : Bool) → state_of r timeouts (made_by t v s ++ before) v ≡ (by_test t s b).after.node
        go true = rw (eq-eqb v v refl, h) (ap (λ (x : Stepped). x.outcome.node) (frame_for_lem s.node s.slots s.reports s.line))
        go false = h

    answers_after : (b : ℕ) → answers_to r timeouts before (made v s b) ≡ (on_byte s b).answers
    unfolding answers_to
    answers_after b = go (eqb b newline)
      where
        go : (t : Bool) → answers_to r timeouts before (made_by t v s) ≡ (by_test t s b).answers
        go true = rw h (ap (λ (x : Stepped). x.outcome.answer ∷ []) (frame_for_lem s.node s.slots s.reports s.line))
        go false = refl

    others_stay : (b w : ℕ) → (w ≡ v → ⊥) → state_of r timeouts (made v s b ++ before) w ≡ state_of r timeouts before w
    others_stay b w g = go (eqb b newline)
      where
        go : (t : Bool) → state_of r timeouts (made_by t v s ++ before) w ≡ state_of r timeouts before w
        go true = rw (ne_eqb v w (λ e. g (sym e)))
        go false = refl

-- a whole feed, byte by byte
record Bytewise (r : Roster) (timeouts : ℕ → ℕ) (before : List Made) (v : ℕ) (s : Station) (bytes : List ℕ) : Type 0 where
  pub answers : answers_to r timeouts before (calls v s bytes) ≡ (stream s bytes).answers
  pub node : state_of r timeouts (calls v s bytes ++ before) v ≡ (stream s bytes).after.node
  pub others : (w : ℕ) → (w ≡ v → ⊥) → state_of r timeouts (calls v s bytes ++ before) w ≡ state_of r timeouts before w

bytewise : (r : Roster) (timeouts : ℕ → ℕ) (before : List Made) (v : ℕ) (s : Station) (bytes : List ℕ) → state_of r timeouts before v ≡ s.node → Bytewise r timeouts before v s bytes
unfolding calls stream answers_to
bytewise r timeouts before v s [] h = record { answers = refl; node = h; others = λ w g. refl }
bytewise r timeouts before v s (b ∷ bs) h =
    let t = (on_byte s b).after in
    let ih = bytewise r timeouts (made v s b ++ before) v t bs (state_after_lem r timeouts before v s h b) in
    record {
      answers = answers_append r timeouts before (calls v t bs) (made v s b) ∙ rw (answers_after r timeouts before v s h b, ih.answers);
      node = rw (append_assoc (calls v t bs) (made v s b) before) ih.node;
      others = λ w g. rw (append_assoc (calls v t bs) (made v s b) before) (ih.others w g ∙ others_stay r timeouts before v s h b w g);
    }

-- and in pieces
pub feeds_are_calls : FeedsAreCalls
feeds_are_calls r timeouts before v s pieces h =
    let k = bytewise r timeouts before v s (flatten pieces) h in
    let e = (cut_anywhere s).pieces pieces in
    record { answers = rw e k.answers; node = rw e k.node; others = k.others }

-- ---- calls one after the other

-- later calls after earlier ones
run_append : (w : World) (later earlier : List Call) → run after w (later ++ earlier) ≡ run after (run after w earlier) later
run_append w [] earlier = refl
run_append w (c ∷ later) earlier = ap (λ (x : World). after x c) (run_append w later earlier)

-- a call, without the tables lent
abbrev bare : Made → Call
bare m = m.call

-- one byte
world_after : (v : ℕ) (s : Station) (b : ℕ) → run after (world_of s) (map bare (made v s b)) ≡ world_of (on_byte s b).after
world_after v s b = go (eqb b newline)
  where
    go : (t : Bool) → run after (world_of s) (map bare (made_by t v s)) ≡ world_of (by_test t s b).after
    go true = ap (λ (x : Stepped). record { node = x.outcome.node; tables = record { slots = x.slots; reports = x.reports } }) (frame_for_lem s.node s.slots s.reports s.line)
    go false = refl

-- a whole feed, byte by byte and in pieces
bytes_are_runs : (v : ℕ) (s : Station) (bytes : List ℕ) → run after (world_of s) (map bare (calls v s bytes)) ≡ world_of (stream s bytes).after
unfolding calls stream
bytes_are_runs v s [] = refl
bytes_are_runs v s (b ∷ bs) =
    let t = (on_byte s b).after in
    rw (map-append bare (calls v t bs) (made v s b), run_append (world_of s) (map bare (calls v t bs)) (map bare (made v s b)), world_after v s b) (bytes_are_runs v t bs)

pub feeds_are_runs : FeedsAreRuns
feeds_are_runs v s pieces = rw ((cut_anywhere s).pieces pieces) (bytes_are_runs v s (flatten pieces))

-- ---- soundness

sound_after : (n : Node) (slots reports : List ℕ) (line : Line) → sound n ≡ true → sound (on_line n slots reports line).outcome.node ≡ true
sound_after n slots reports line h =
    ap (λ (x : Stepped). sound x.outcome.node) (sym (frame_for_lem n slots reports line)) ∙ every_call_keeps_sound n (record { slots = slots; reports = reports }) (frame (frame_for line)) h

pub feeds_keep_sound : FeedsKeepSound
unfolding stream
feeds_keep_sound s [] h = h
feeds_keep_sound s (b ∷ bs) h = feeds_keep_sound (on_byte s b).after bs (go (eqb b newline))
  where
    go : (t : Bool) → sound (by_test t s b).after.node ≡ true
    go true = sound_after s.node s.slots s.reports s.line h
    go false = h

-- ---- nodes that no caller can tell apart

-- nor can one that made a call on both
alike_after : (a b : Node) (t : Tables) (c : Call) → ActAlike a b → ActAlike (outcome a t c).node (outcome b t c).node
alike_after a b t c x =
    let m : LentCall = record { call = c; lent = t } in
    record {
      call = λ u d.
          let ms = m ∷ record { call = d; lent = u } ∷ [] in
          let e = ap (λ (l : List (Answer × Tables)). get_or l 1 (Done, u)) (x.list ms) in
          record {
            answer = ap (λ (p : Answer × Tables). p.0) e;
            node = x.state ms;
            slots = ap (λ (p : Answer × Tables). p.1.slots) e;
            reports = ap (λ (p : Answer × Tables). p.1.reports) e;
          };
      list = λ ms. ap (drop 1) (x.list (m ∷ ms));
      state = λ ms. x.state (m ∷ ms);
      reply = λ ms. x.reply (m ∷ ms);
      listing = λ ms. x.listing (m ∷ ms);
    }

-- a frame, and a line
frame_alike : (a b : Node) (slots reports line : List ℕ) → ActAlike a b → HeardAlike (heard (ends (on_frame a slots reports line) 1)) (heard (ends (on_frame b slots reports line) 1))
frame_alike a b slots reports line x =
    let t : Tables = record { slots = slots; reports = reports } in
    let e = x.call t (frame line) in
    record {
      answers = ap (λ (y : Answer). y ∷ []) e.answer;
      node = alike_after a b t (frame line) x;
      slots = e.slots;
      reports = e.reports;
      line = refl;
    }

line_alike : (a b : Node) (slots reports : List ℕ) (line : Line) → ActAlike a b → HeardAlike (heard (ends (on_line a slots reports line) 1)) (heard (ends (on_line b slots reports line) 1))
line_alike a b slots reports (short line) x = frame_alike a b slots reports line x
line_alike a b slots reports long x =
    subst (λ (y : Stepped). HeardAlike (heard (ends (on_line a slots reports long) 1)) (heard (ends y 1))) (empty_is_long b slots reports)
    (subst (λ (y : Stepped). HeardAlike (heard (ends y 1)) (heard (ends (on_frame b slots reports []) 1))) (empty_is_long a slots reports) (frame_alike a b slots reports [] x))

-- stations that differ in the node alone
record Alike (s t : Station) : Type 0 where
  pub node : ActAlike s.node t.node
  pub slots : s.slots ≡ t.slots
  pub reports : s.reports ≡ t.reports
  pub line : s.line ≡ t.line

byte_alike : (s t : Station) → Alike s t → (b : ℕ) → HeardAlike (on_byte s b) (on_byte t b)
byte_alike s t x b = go (eqb b newline)
  where
    go : (k : Bool) → HeardAlike (by_test k s b) (by_test k t b)
    go true = rw (x.slots, x.reports, x.line) (line_alike s.node t.node t.slots t.reports t.line x.node)
    go false = record { answers = refl; node = x.node; slots = x.slots; reports = x.reports; line = rw x.line }

stations_alike : (s t : Station) (bytes : List ℕ) → Alike s t → HeardAlike (stream s bytes) (stream t bytes)
unfolding stream
stations_alike s t [] x = record { answers = refl; node = x.node; slots = x.slots; reports = x.reports; line = x.line }
stations_alike s t (b ∷ bs) x =
    let o = byte_alike s t x b in
    let ih = stations_alike (on_byte s b).after (on_byte t b).after bs (record { node = o.node; slots = o.slots; reports = o.reports; line = o.line }) in
    record { answers = rw (o.answers, ih.answers); node = ih.node; slots = ih.slots; reports = ih.reports; line = ih.line }

pub fed_alike : FedAlike
fed_alike a b s bytes x = stations_alike _ _ bytes (record { node = x; slots = refl; reports = refl; line = refl })
