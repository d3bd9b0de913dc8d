-- What each call of demand 3 comes to: document 01, "The lists of demand 3". The calls themselves are node's (`Calls`).
use Rattle.std.specs.Prelude.{ℕ, cond, eqb, None, Option, Some}
use Rattle.answers.specs.Answers.{number}
use Rattle.state.specs.Node.{is_master}
use Rattle.state.specs.declared.Node.{Node}
use Rattle.frames.specs.Frames.{frame_of}
use Rattle.frames.specs.declared.Header.{Header}
use Rattle.frames.specs.declared.Kind.{Kind}
use Rattle.frames.specs.declared.Kind.TheVariants.{Heartbeat, Report, Fail, Request, Ack, Probe, Tick}
use Rattle.node.specs.Calls.{Tables, Call, frame, opening, setting, clearing, outcome}
use Rattle.frames.specs.declared.Frame.{Frame}
use Rattle.safety.specs.Deeds.{Deed, granted, counted, won, opened, announced, other}

-- what a frame came to, by its answer's number
abbrev pub kind_deed : Header → Kind → ℕ → Deed
kind_deed h (Heartbeat sender role) a = cond (eqb a 0) (announced sender (is_master role)) other
kind_deed h (Report reporter subject verdict) a = other
kind_deed h (Fail sender subject) a = other
kind_deed h (Request candidate) a = cond (eqb a 10) (granted h.epoch candidate) other
kind_deed h (Ack voter candidate) a = cond (eqb a 30) (won voter h.epoch) (cond (eqb a 0) (counted voter h.epoch) other)
kind_deed h (Probe subject echo) a = other
kind_deed h Tick a = other

abbrev pub frame_deed : Option Frame → ℕ → Deed
frame_deed None a = other
frame_deed (Some f) a = kind_deed f.header f.kind a

-- what a call came to, from its arguments, the tables lent and its answer's number alone
abbrev pub deed_of : Tables → Call → ℕ → Deed
deed_of t (frame line) a = frame_deed (frame_of line) a
deed_of t (opening time) a = cond (eqb a 0) (opened t.slots) other
deed_of t (setting slot move) a = other
deed_of t (clearing slot) a = other

abbrev pub deed : Node → Tables → Call → Deed
deed n t c = deed_of t c (number (outcome n t c).answer)
