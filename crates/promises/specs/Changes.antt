-- Demand 1, its second half: what a call that is not turned away changes, by kind. What is not named stays.
use Rattle.std.specs.Prelude.{◌≡◌, Bool, true, false, List, ℕ, ◌+◌, ◌<◌, T, length, set, None, Option, Some}
use Rattle.tables.specs.Checks.{all_of}
use Rattle.nodesets.specs.NodeSets.{added}
use Rattle.nodesets.specs.declared.NodeSet.{NodeSet}
use Rattle.answers.specs.Answers.{number}
use Rattle.answers.specs.declared.Answer.TheVariants.{Done, Granted}
use Rattle.answers.specs.declared.Answer.TheVariants as answer
use Rattle.state.specs.Node.{record_at, voting_masters, role_at, followed}
use Rattle.state.specs.Changes.{with_config, with_ping, with_flag, with_records, with_current, with_clock, with_election, on_record, arrived}
use Rattle.state.specs.Outcomes.{Stepped}
use Rattle.state.specs.declared.Node.{Node}
use Rattle.state.specs.declared.Role.{Role}
use Rattle.state.specs.declared.Verdict.{Verdict}
use Rattle.state.specs.declared.Verdict.TheVariants as verdict
use Rattle.state.specs.declared.Echo.{Echo}
use Rattle.state.specs.declared.Echo.TheVariants.{Ping, Pong}
use Rattle.state.specs.declared.Move.{Move}
use Rattle.frames.specs.Frames.{frame_of, bitmap_of}
use Rattle.frames.specs.declared.Header.{Header}
use Rattle.frames.specs.declared.Kind.{Kind}
use Rattle.frames.specs.declared.Kind.TheVariants.{Heartbeat, Report, Fail, Request, Ack, Probe, Tick}
use Rattle.refusals.specs.Refusals.{turns_away}
use Rattle.failure.specs.Failure.{report_at, flag_if_signalled}
use Rattle.failure.specs.Keeps.{FlagsOnly}
use Rattle.probes.specs.Probes.{started, pong_flag, tick_flag}
use Rattle.reports.specs.Reports.{fail_flag}
use Rattle.heartbeats.specs.Heartbeats.{heard_of, with_sender, tied}
use Rattle.votes.specs.Votes as votes
use Rattle.openings.specs.Openings.{opens, opening}
use Rattle.acks.specs.Acks.{promoted, passing}
use Rattle.marks.specs.Marks.{ButMarks}
use Rattle.marks.specs.MarkChanges.{set_mark, clear_mark, marking, unmarking}
use Rattle.node.specs.Step.{on_frame}
use Rattle.frames.specs.declared.Frame.{Frame}
use Rattle.state.specs.Node.{an_election}
use Rattle.promises.specs.Claims.{slots_after}

-- both tables stay
pub record TablesKept (slots reports : List ℕ) (s : Stepped) : Type 0 where
  pub slots_kept : s.slots ≡ slots
  pub reports_kept : s.reports ≡ reports

-- this node ties with the sender, as the frame makes it known, and gives way
abbrev pub gives_way : Node → ℕ → Role → ℕ → Bool
gives_way a sender role config = all_of (tied sender config (with_sender sender role config a))

-- it gave way: currentEpoch went up by 1 and is its configEpoch
pub record Bumped (a b : Node) : Type 0 where
  pub current : b.current ≡ a.current + 1
  pub config : record_at b a.me ≡ with_config (a.current + 1) (record_at a a.me)

-- or nothing of that
pub record NotBumped (a b : Node) : Type 0 where
  pub current : b.current ≡ a.current
  pub config : record_at b a.me ≡ record_at a a.me

-- Each kind by what it changes in the node as it arrives, with the clock at the frame's time and currentEpoch risen. A kind
-- that carries no epoch moves the clock alone.
module _ (n : Node) (slots reports : List ℕ) (s : Stepped) (h : Header) where
  abbrev after : Node
  after = s.outcome.node

  abbrev arrival : Node
  arrival = arrived h.time h.epoch n

  abbrev later : Node
  later = with_clock h.time n

  -- heartbeat: the slots that go to the sender, the sender's role and configEpoch, on a bump currentEpoch and the own configEpoch
  pub record HeartbeatChanges (bitmap : List ℕ) (sender : ℕ) (role : Role) : Type 0 where
    pub rest : after ≡ with_records after.records (with_current after.current later)
    pub room : length after.records ≡ length n.records
    pub sender_heard : record_at after sender ≡ heard_of role h.config (record_at n sender)
    pub others : (k : ℕ) → (k ≡ sender → ⊥) → (k ≡ n.me → ⊥) → record_at after k ≡ record_at n k
    pub bump : gives_way arrival sender role h.config ≡ true → Bumped arrival after
    pub no_bump : gives_way arrival sender role h.config ≡ false → NotBumped arrival after
    pub slots_claimed : s.slots ≡ slots_after n bitmap sender role h.config slots
    pub reports_kept : s.reports ≡ reports

  -- the clock moves, and that is all
  pub record ClockMoves : Type 0 where
    pub node : after ≡ later
    pub tables : TablesKept slots reports s

  -- a report is stored: its entry, the time plus one, and the subject's flag by the voting masters that signal it then
  pub record ReportStored (reporter subject : ℕ) : Type 0 where
    pub node : after ≡ on_record subject (with_flag (flag_if_signalled later (voting_masters later slots) s.reports subject (record_at n subject).flag)) later
    pub entry : s.reports ≡ set reports (report_at subject reporter) (h.time + 1)
    pub slots_kept : s.slots ≡ slots

  -- report: verdict 0 stores nothing
  abbrev pub ReportChanges : ℕ → ℕ → Verdict → Type 0
  ReportChanges reporter subject verdict.Fine = ClockMoves
  ReportChanges reporter subject verdict.Pfail = ReportStored reporter subject
  ReportChanges reporter subject verdict.Fail = ReportStored reporter subject

  -- fail: the subject's flag
  pub record FailChanges (subject : ℕ) : Type 0 where
    pub node : after ≡ on_record subject (with_flag (fail_flag h.time (record_at n subject).flag)) later
    pub tables : TablesKept slots reports s

  -- probe: the subject's ping, and at a pong its flag
  abbrev pub probed_on : ℕ → Echo → Node
  probed_on subject Ping = on_record subject (λ r. with_ping (started h.time r.ping) r) later
  probed_on subject Pong = on_record subject (λ r. with_ping None (with_flag (pong_flag later slots subject r.role r.flag) r)) later

  pub record ProbeChanges (subject : ℕ) (echo : Echo) : Type 0 where
    pub node : after ≡ probed_on subject echo
    pub tables : TablesKept slots reports s

  -- tick: flags, each node's by itself, and by the voting masters that signal it
  pub record TickChanges : Type 0 where
    pub flags : FlagsOnly later after
    pub each : (k : ℕ) → k < n.size → (record_at after k).flag ≡ tick_flag later slots reports k
    pub tables : TablesKept slots reports s

  -- vote request: 10 sets lastVoteEpoch and the vote time of the candidate's master; 11 to 18 nothing more
  pub record RequestChanges (candidate : ℕ) : Type 0 where
    pub refused : (s.outcome.answer ≡ Granted → ⊥) → after ≡ arrival
    pub granted : s.outcome.answer ≡ Granted → after ≡ votes.granted (followed (role_at arrival candidate)) h.epoch arrival
    pub tables : TablesKept slots reports s

  -- the open election of the ack's epoch goes on with the voter among those heard
  pub record Counted (voter : ℕ) : Type 0 where
    pub opened : ℕ
    pub voters : NodeSet
    pub heard : NodeSet
    pub running : n.election ≡ an_election h.epoch opened voters heard
    pub node : after ≡ with_election (an_election h.epoch opened voters (added heard voter)) arrival
    pub slots_kept : s.slots ≡ slots

  -- the election is won: this node is a master with the ack's epoch, and the election is closed, whether slots pass or not; the
  -- answer tells how many did
  pub record Won : Type 0 where
    pub node : after ≡ promoted h.epoch arrival
    pub slots_pass : s.slots ≡ (passing arrival slots h.epoch).slots
    pub told : s.outcome.answer ≡ answer.Won (passing arrival slots h.epoch).count

  -- ack: 0 changes the election alone; 30 the election, this node's role and configEpoch, and slots of its old master; 31 to
  -- 36 nothing more
  pub record AckChanges (voter : ℕ) : Type 0 where
    pub refused : (s.outcome.answer ≡ Done → ⊥) → (number s.outcome.answer ≡ 30 → ⊥) → (after ≡ arrival) × (s.slots ≡ slots)
    pub counted : s.outcome.answer ≡ Done → Counted voter
    pub won : number s.outcome.answer ≡ 30 → Won
    pub reports_kept : s.reports ≡ reports

  abbrev pub KindChanges : List ℕ → Kind → Type 0
  KindChanges bitmap (Heartbeat sender role) = HeartbeatChanges bitmap sender role
  KindChanges bitmap (Report reporter subject said) = ReportChanges reporter subject said
  KindChanges bitmap (Fail sender subject) = FailChanges subject
  KindChanges bitmap (Request candidate) = RequestChanges candidate
  KindChanges bitmap (Ack voter candidate) = AckChanges voter
  KindChanges bitmap (Probe subject echo) = ProbeChanges subject echo
  KindChanges bitmap Tick = TickChanges

-- one that is no frame is turned away
abbrev pub FrameChanges : Node → List ℕ → List ℕ → Stepped → List ℕ → Option Frame → Type 0
FrameChanges n slots reports s bitmap None = ⊥
FrameChanges n slots reports s bitmap (Some f) = KindChanges n slots reports s f.header bitmap f.kind

-- a line that is not turned away, by its kind
abbrev pub LineChanges : Node → List ℕ → List ℕ → List ℕ → Type 0
LineChanges n slots reports line =
    let s = on_frame n slots reports line in
    (T (turns_away s.outcome.answer) → ⊥) → FrameChanges n slots reports s (bitmap_of line) (frame_of line)

-- opening: 0 opens, with the voting masters by the table as the set; any other answer past 1 to 8 (24, 25, 26, 28, 9) moves the
-- clock only
pub record OpeningChanges (n : Node) (slots : List ℕ) (time : ℕ) : Type 0 where
  pub opened : (opens n slots time).answer ≡ Done → (opens n slots time).node ≡ opening (with_clock time n) slots
  pub clock_only : ((opens n slots time).answer ≡ Done → ⊥) → (T (turns_away (opens n slots time).answer) → ⊥) → (opens n slots time).node ≡ with_clock time n

-- marks: nothing but the marks
pub record MarkChanges (n : Node) : Type 0 where
  pub setting : (slots : List ℕ) (slot : ℕ) (move : Move) → ButMarks n (set_mark n slots slot move).node
  pub set : (slots : List ℕ) (slot : ℕ) (move : Move) → (set_mark n slots slot move).answer ≡ Done → (set_mark n slots slot move).node ≡ marking slot move n
  pub clearing : (slot : ℕ) → ButMarks n (clear_mark n slot).node
  pub cleared : (slot : ℕ) → (clear_mark n slot).answer ≡ Done → (clear_mark n slot).node ≡ unmarking slot n
