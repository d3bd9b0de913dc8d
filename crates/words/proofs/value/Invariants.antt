-- `words::value`: what is left to read is the characters from this one on.
use mathlib.Core.Path.{◌≡◌}
use Prim.Native.Nat.{◌≤◌}
use lib.ListN.{drop}
use Rattle.words.specs.Numbers.{value_from}
use Rattle.words.proofs.value.Given as goal

abbrev pub invariant-loop-c : goal.invariant-loop-c
invariant-loop-c l = (value_from 0 l.word ≡ value_from l.v (drop l.c-index l.word)) × (l.v ≤ 1_000_000_000_000_000_001)
