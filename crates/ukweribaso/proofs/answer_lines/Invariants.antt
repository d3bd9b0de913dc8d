-- `ukweribaso::answer_lines`: a call that answers a line uses some of the piece, and no call uses more than there is. What is
-- left of the piece comes to what the whole piece comes to.
use mathlib.Core.Path.{◌≡◌}
use Prim.Native.Nat.{◌-◌, ◌≤◌}
use lib.ListN.{length, drop}
use Rattle.feed.specs.Feed.{station}
use Rattle.streams.specs.Streams.{stream}
use Rattle.ukweribaso.proofs.answer_lines.Given as goal

abbrev pub invariant-loop-answer : goal.invariant-loop-answer
invariant-loop-answer g l =
    (length l.slots ≡ length l.initial.slots) × (length l.reports ≡ length l.initial.reports) × (l.from ≤ length l.piece)
    × ((stream (station l.initial.here l.initial.slots l.initial.reports l.initial.rest) l.piece).after ≡ (stream (station l.here l.slots l.reports l.rest) (drop l.from l.piece)).after)

abbrev pub decreases-loop-answer : goal.decreases-loop-answer
decreases-loop-answer g l = length l.piece - l.from
