-- `feeding::ukweribaso_feed`: the answers so far, and what the bytes that are left come to, from any call on.
use mathlib.Core.Path.{◌≡◌}
use Prim.Native.Nat.{◌-◌, ◌≤◌}
use lib.ListN.{length}
use Rattle.feed.specs.Feed.{station}
use Rattle.feeding.proofs.Pieces.{Left}
use Rattle.feeding.proofs.ukweribaso_feed.Given as goal

abbrev pub invariant-loop-at : goal.invariant-loop-at
invariant-loop-at l =
    Left l.bytes (station l.initial.here l.initial.slots l.initial.reports l.initial.kept) l.notes (station l.here l.slots l.reports l.kept) l.at × (l.end ≤ length l.bytes) × (length l.slots ≡ length l.initial.slots) × (length l.reports ≡ length l.initial.reports)

abbrev pub decreases-loop-at : goal.decreases-loop-at
decreases-loop-at l = length l.bytes - l.at
