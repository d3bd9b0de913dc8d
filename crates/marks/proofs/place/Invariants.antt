-- `marks::place` meets its contract.
use mathlib.Core.Path.{◌≡◌}
use Prim.Native.Nat.{◌+◌}
use lib.ListN.{drop}
use Rattle.marks.specs.Marks.{place_of}
use Rattle.marks.proofs.place.Given as goal

abbrev pub invariant-loop-i : goal.invariant-loop-i
invariant-loop-i l = place_of l.slot l.marks ≡ l.i + place_of l.slot (drop l.i l.marks)
