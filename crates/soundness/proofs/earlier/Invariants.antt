-- `soundness::earlier`: before place i the two are alike.
use mathlib.Core.Path.{◌≡◌}
use lib.ListN.{drop}
use Rattle.soundness.specs.Sound.{before}
use Rattle.soundness.proofs.earlier.Given as goal

abbrev pub invariant-loop-i : goal.invariant-loop-i
invariant-loop-i l = before l.a.bytes l.b.bytes ≡ before (drop l.i l.a.bytes) (drop l.i l.b.bytes)
