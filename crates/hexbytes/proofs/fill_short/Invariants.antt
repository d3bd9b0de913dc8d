-- `hexbytes::fill_short`: in front of the next byte stand the line's bytes.
use mathlib.Core.Path.{◌≡◌}
use mathlib.Core.List.{◌++◌}
use lib.ListN.{drop}
use Rattle.hexdigits.specs.Hex.{bytes_at}
use Rattle.hexbytes.proofs.fill_short.Given as goal

abbrev pub invariant-loop-k : goal.invariant-loop-k
invariant-loop-k l = l.out ≡ bytes_at l.line l.from l.k ++ drop l.k l.initial.out
