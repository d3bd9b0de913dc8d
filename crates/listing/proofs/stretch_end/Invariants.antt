-- `listing::stretch_end`: from each place on, the entries alike are those behind it.
use mathlib.Core.Path.{◌≡◌}
use Prim.Native.Nat.{◌+◌}
use lib.ListN.{drop}
use Rattle.listing.specs.Stretches.{alike}
use Rattle.listing.proofs.stretch_end.Given as goal

abbrev pub invariant-loop-i : goal.invariant-loop-i
invariant-loop-i l = l.i + alike l.owner (drop l.i l.slots) ≡ l.from + alike l.owner (drop l.from l.slots)
