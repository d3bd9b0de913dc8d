-- What a frame is answered: document 01. The checks stand in refusals, what each kind does in kinds.
use Rattle.std.specs.Prelude.{ℕ, List, length, None, Option, Some}
use Rattle.tables.specs.Checks.{checked}
use Rattle.answers.specs.declared.Answer.{Answer}
use Rattle.answers.specs.declared.Answer.TheVariants as answer
use Rattle.state.specs.Changes.{arrived}
use Rattle.state.specs.Outcomes.{answered, Stepped}
use Rattle.state.specs.declared.Node.{Node}
use Rattle.frames.specs.Frames.{frame_of, bitmap_of}
use Rattle.frames.specs.declared.Frame.{Frame}
use Rattle.refusals.specs.Refusals.{refusals}
use Rattle.kinds.specs.Kinds.{keeping, on_kind}

-- a refusal 1 to 8: the answer, and nothing changes
abbrev pub turned_away : Node → List ℕ → List ℕ → Answer → Stepped
turned_away n slots reports a = keeping slots reports (answered n a)

-- a frame that passes: the clock becomes its time and currentEpoch rises to its epoch, whatever follows; then its kind
abbrev pub taken : Node → List ℕ → List ℕ → List ℕ → Frame → Stepped
taken n slots reports bitmap f = on_kind (arrived f.header.time f.header.epoch n) slots reports bitmap f.header f.kind

-- what comes past the checks, which a line that is no frame does not pass
abbrev pub taken_in : Node → List ℕ → List ℕ → List ℕ → Option Frame → Stepped
taken_in n slots reports bitmap None = turned_away n slots reports answer.NotAFrame
taken_in n slots reports bitmap (Some f) = taken n slots reports bitmap f

-- a line
unfoldable pub on_frame : Node → List ℕ → List ℕ → List ℕ → Stepped
on_frame n slots reports line =
    let d = frame_of line in
    checked (turned_away n slots reports) (refusals n (length slots) (length reports) d) (taken_in n slots reports (bitmap_of line) d)
