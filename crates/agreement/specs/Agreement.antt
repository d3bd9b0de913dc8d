-- The two engines agree: the plain one, which takes a heartbeat's claims slot by slot (slotwise), and the fast one (heartbeats).
use Rattle.std.specs.Prelude.{◌≡◌, List, ℕ, length, None, Option, Some}
use Rattle.tables.specs.Checks.{checked}
use Rattle.answers.specs.declared.Answer.TheVariants as answer
use Rattle.state.specs.Changes.{arrived}
use Rattle.state.specs.Outcomes.{Stepped}
use Rattle.state.specs.declared.Node.{Node}
use Rattle.state.specs.declared.Role.{Role}
use Rattle.frames.specs.Frames.{frame_of, bitmap_of}
use Rattle.frames.specs.declared.Frame.{Frame}
use Rattle.frames.specs.declared.Header.{Header}
use Rattle.frames.specs.declared.Kind.{Kind}
use Rattle.frames.specs.declared.Kind.TheVariants.{Heartbeat, Report, Fail, Request, Ack, Probe, Tick}
use Rattle.refusals.specs.Refusals.{refusals}
use Rattle.heartbeats.specs.Heartbeats.{heartbeat}
use Rattle.slotwise.specs.Slotwise.{plain_heartbeat}
use Rattle.kinds.specs.Kinds.{slotted_step, on_kind}
use Rattle.node.specs.Step.{turned_away, on_frame}

-- ---- the step with the plain engine in it, built as node's `on_frame` is

-- by kind, past the refusals, with clock and currentEpoch risen: a heartbeat by the plain engine, the other kinds as ever
unfoldable pub plain_kind : Node → List ℕ → List ℕ → List ℕ → Header → Kind → Stepped
plain_kind n slots reports bitmap h (Heartbeat sender role) = slotted_step reports (plain_heartbeat n slots bitmap sender role h.config)
plain_kind n slots reports bitmap h (Report reporter subject verdict) = on_kind n slots reports bitmap h (Report reporter subject verdict)
plain_kind n slots reports bitmap h (Fail sender subject) = on_kind n slots reports bitmap h (Fail sender subject)
plain_kind n slots reports bitmap h (Request candidate) = on_kind n slots reports bitmap h (Request candidate)
plain_kind n slots reports bitmap h (Ack voter candidate) = on_kind n slots reports bitmap h (Ack voter candidate)
plain_kind n slots reports bitmap h (Probe subject echo) = on_kind n slots reports bitmap h (Probe subject echo)
plain_kind n slots reports bitmap h Tick = on_kind n slots reports bitmap h Tick

-- a frame that passes: the clock becomes its time and currentEpoch rises to its epoch, whatever follows; then its kind
abbrev pub plain_taken : Node → List ℕ → List ℕ → List ℕ → Frame → Stepped
plain_taken n slots reports bitmap f =
    plain_kind (arrived f.header.time f.header.epoch n) slots reports bitmap f.header f.kind

-- what comes past the checks, which a line that is no frame does not pass
abbrev pub plain_taken_in : Node → List ℕ → List ℕ → List ℕ → Option Frame → Stepped
plain_taken_in n slots reports bitmap None = turned_away n slots reports answer.NotAFrame
plain_taken_in n slots reports bitmap (Some f) = plain_taken n slots reports bitmap f

-- a line, by the same checks
unfoldable pub plain_frame : Node → List ℕ → List ℕ → List ℕ → Stepped
plain_frame n slots reports line =
    let d = frame_of line in
    checked (turned_away n slots reports) (refusals n (length slots) (length reports) d) (plain_taken_in n slots reports (bitmap_of line) d)

-- ---- the statements. Nothing is asked of the node, which need not be sound, nor of the lengths of arrays, tables and bitmap

-- a heartbeat: the same answer, with both counts and the lowest stale slot, the same node and the same slot table
abbrev pub HeartbeatsAgree : Type 0
HeartbeatsAgree =
    (n : Node) (slots bitmap : List ℕ) (sender : ℕ) (role : Role) (config : ℕ)
    → plain_heartbeat n slots bitmap sender role config ≡ heartbeat n slots bitmap sender role config

-- a line of any kind, taken or refused: the same answer, the same node and the same tables
abbrev pub LinesAgree : Type 0
LinesAgree = (n : Node) (slots reports line : List ℕ) → plain_frame n slots reports line ≡ on_frame n slots reports line
