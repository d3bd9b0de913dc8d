-- A heartbeat by both engines, and every line.
use Rattle.std.specs.Prelude.{None, Option, Some}
use mathlib.Core.Path.{◌≡◌, refl, ap}
use mathlib.Core.List.{List}
use Prim.Native.Nat.{ℕ}
use lib.ListN.{length}
use Rattle.tables.specs.Checks.{checked}
use Rattle.answers.specs.declared.Answer.TheVariants.{Heard}
use Rattle.state.specs.Outcomes.{answered, Slotted}
use Rattle.state.specs.declared.Node.{Node}
use Rattle.state.specs.declared.Role.TheVariants.{Master, Replica}
use Rattle.frames.specs.Frames.{frame_of, bitmap_of}
use Rattle.frames.specs.declared.Header.{Header}
use Rattle.frames.specs.declared.Kind.{Kind}
use Rattle.frames.specs.declared.Kind.TheVariants.{Heartbeat, Report, Fail, Request, Ack, Probe, Tick}
use Rattle.refusals.specs.Refusals.{refusals}
use Rattle.ownership.specs.Claim.{Claimed}
use Rattle.heartbeats.specs.Heartbeats.{with_sender, bumped, heartbeat}
use Rattle.slotwise.specs.Slotwise.{after_tie, plain_heartbeat}
use Rattle.kinds.specs.Kinds.{slotted_step, on_kind}
use Rattle.node.specs.Step.{turned_away, taken_in, on_frame}
use Rattle.agreement.specs.Agreement.{plain_kind, plain_taken_in, plain_frame, HeartbeatsAgree, LinesAgree}
use Rattle.agreement.proofs.Senders.{same_sender}
use Rattle.frames.specs.declared.Frame.{Frame}
use Rattle.agreement.proofs.Claims.{same_claims}

pub heartbeats_agree : HeartbeatsAgree
unfolding plain_heartbeat heartbeat with_sender after_tie bumped
heartbeats_agree n slots bitmap sender (Replica m) config = refl
heartbeats_agree n slots bitmap sender Master config =
    rw (same_sender sender config n) (ap told (same_claims heard sender config bitmap slots))
  where
    heard : Node
    heard = with_sender sender Master config n

    told : Claimed → Slotted
    told c = record { outcome = answered (bumped sender config heard) (Heard c.tally); slots = c.slots }

module _ (n : Node) (slots reports bitmap : List ℕ) where
  kinds_agree : (h : Header) (k : Kind) → plain_kind n slots reports bitmap h k ≡ on_kind n slots reports bitmap h k
  unfolding plain_kind on_kind
  kinds_agree h (Heartbeat sender role) = ap (slotted_step reports) (heartbeats_agree n slots bitmap sender role h.config)
  kinds_agree h (Report reporter subject verdict) = refl
  kinds_agree h (Fail sender subject) = refl
  kinds_agree h (Request candidate) = refl
  kinds_agree h (Ack voter candidate) = refl
  kinds_agree h (Probe subject echo) = refl
  kinds_agree h Tick = refl

-- past the checks
taken_agree : (n : Node) (slots reports bitmap : List ℕ) (d : Option Frame)
    → plain_taken_in n slots reports bitmap d ≡ taken_in n slots reports bitmap d
taken_agree n slots reports bitmap None = refl
taken_agree n slots reports bitmap (Some f) = kinds_agree _ slots reports bitmap f.header f.kind

pub lines_agree : LinesAgree
unfolding plain_frame on_frame
lines_agree n slots reports line =
    let rows = refusals n (length slots) (length reports) (frame_of line) in
    ap (checked (turned_away n slots reports) rows) (taken_agree n slots reports (bitmap_of line) (frame_of line))
