-- `listing::count`: what was counted, and the ranges from the slot on.
use mathlib.Core.Path.{◌≡◌}
use Prim.Native.Nat.{◌+◌, ◌≤◌}
use lib.ListN.{length, drop}
use Rattle.listing.specs.Listing.{ranges_from, listing}
use Rattle.listing.proofs.count.Given as goal

abbrev pub invariant-loop-s : goal.invariant-loop-s
invariant-loop-s l = record {
  few : l.n ≤ l.s;
  counted : l.n + length (ranges_from l.size l.s (drop l.s l.slots)) ≡ length (listing l.size l.slots);
}
