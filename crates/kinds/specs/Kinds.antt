-- What each kind of frame does: document 01, "What a frame is answered", past the refusals. Each kind stands in its own chapter.
use Rattle.std.specs.Prelude.{ℕ, List}
use Rattle.answers.specs.declared.Answer.TheVariants.{Done}
use Rattle.state.specs.Outcomes.{answered, Slotted, Reported, Stepped}
use Rattle.state.specs.declared.Node.{Node}
use Rattle.state.specs.declared.Outcome.{Outcome}
use Rattle.frames.specs.declared.Header.{Header}
use Rattle.frames.specs.declared.Kind.{Kind}
use Rattle.frames.specs.declared.Kind.TheVariants.{Heartbeat, Report, Fail, Request, Ack, Probe, Tick}
use Rattle.probes.specs.Probes.{probed, ticked}
use Rattle.reports.specs.Reports.{reported, failed}
use Rattle.heartbeats.specs.Heartbeats.{heartbeat}
use Rattle.votes.specs.Votes.{requested}
use Rattle.acks.specs.Acks.{acked}

-- ---- what a call on one chapter leaves, with the tables that it was not lent

-- an outcome, both tables kept
abbrev pub keeping : List ℕ → List ℕ → Outcome → Stepped
keeping slots reports o = record { outcome = o; slots = slots; reports = reports }

-- 0 with this node, both tables kept
abbrev pub done_step : List ℕ → List ℕ → Node → Stepped
done_step slots reports n = keeping slots reports (answered n Done)

-- an outcome and a slot table
abbrev pub slotted_step : List ℕ → Slotted → Stepped
slotted_step reports s = record { outcome = s.outcome; slots = s.slots; reports = reports }

-- 0 with this node and these report times
abbrev pub reported_step : List ℕ → Reported → Stepped
reported_step slots r = record { outcome = answered r.node Done; slots = slots; reports = r.reports }

-- ---- by kind, past the refusals, with clock and currentEpoch risen
unfoldable pub on_kind : Node → List ℕ → List ℕ → List ℕ → Header → Kind → Stepped
on_kind n slots reports bitmap h (Heartbeat sender role) = slotted_step reports (heartbeat n slots bitmap sender role h.config)
on_kind n slots reports bitmap h (Report reporter subject verdict) = reported_step slots (reported n slots reports reporter subject verdict)
on_kind n slots reports bitmap h (Fail sender subject) = done_step slots reports (failed n subject)
on_kind n slots reports bitmap h (Request candidate) = keeping slots reports (requested n slots bitmap candidate h.epoch h.config)
on_kind n slots reports bitmap h (Ack voter candidate) = slotted_step reports (acked n slots voter candidate h.epoch)
on_kind n slots reports bitmap h (Probe subject echo) = done_step slots reports (probed n slots subject echo)
on_kind n slots reports bitmap h Tick = done_step slots reports (ticked n slots reports)
