-- `aloud::put_listing`: what is left to say is the ranges that are left, and the slots from `next` on.
use mathlib.Core.Path.{◌≡◌}
use lib.ListN.{length}
use Rattle.lines.specs.Writers.{extended}
use Rattle.aloud.specs.Aloud.{spoken, spoken_from, ranges_of}
use Rattle.aloud.proofs.put_listing.Given as goal

abbrev pub invariant-loop-left : goal.invariant-loop-left
invariant-loop-left l = extended l.initial.out (spoken l.margin (ranges_of l.list)) ≡ extended l.out (spoken_from l.margin l.next (ranges_of l.left))

abbrev pub decreases-loop-left : goal.decreases-loop-left
decreases-loop-left l = length l.left
