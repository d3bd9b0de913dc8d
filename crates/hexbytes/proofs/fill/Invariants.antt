-- `hexbytes::fill`: in front of the next byte stand the part's bytes.
use mathlib.Core.Path.{◌≡◌}
use mathlib.Core.List.{◌++◌}
use lib.ListN.{drop}
use Rattle.hexdigits.specs.Hex.{bytes_at}
use Rattle.hexbytes.proofs.fill.Given as goal

abbrev pub invariant-loop-i : goal.invariant-loop-i
invariant-loop-i l = l.out ≡ bytes_at l.part 0 l.i ++ drop l.i l.initial.out
