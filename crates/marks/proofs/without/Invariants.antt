-- `marks::without` meets its contract.
use mathlib.Core.Path.{◌≡◌}
use mathlib.Core.List.{◌++◌}
use Prim.Native.Nat.{◌≤◌}
use lib.ListN.{length, take, drop}
use Rattle.marks.specs.Marks.{others}
use Rattle.marks.proofs.without.Given as goal

abbrev pub invariant-loop-mark : goal.invariant-loop-mark
invariant-loop-mark l =
    (l.j ≤ l.mark-index) × (length (others l.slot (take l.mark-index l.marks)) ≡ l.j) × (l.kept ≡ others l.slot (take l.mark-index l.marks) ++ drop l.j l.initial.kept)
