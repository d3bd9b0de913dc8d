-- `entry::arrays_sound` meets its contract: each early answer cites the test that failed.
use mathlib.Core.Path.{◌≡◌}
use mathlib.Core.Bool.{true}
use Prim.Native.Nat.{◌-◌}
use Rattle.tables.specs.Below.{every}
use Rattle.soundness.specs.Sound.{id_in_order, record_sound_at}
use Rattle.entry.proofs.Arrays.{Passed}
use Rattle.entry.proofs.arrays_sound.Given as goal

abbrev pub invariant-loop-i : goal.invariant-loop-i
invariant-loop-i l = Passed l.node l.i l.least

abbrev pub invariant-loop-k : goal.invariant-loop-k
invariant-loop-k l = every l.k (record_sound_at l.node) ≡ true

abbrev pub invariant-loop-j : goal.invariant-loop-j
invariant-loop-j l = every (l.j - 1) (id_in_order l.node) ≡ true
