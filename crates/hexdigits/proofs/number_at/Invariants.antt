-- `hexdigits::number_at`: the number so far is that of the bytes so far.
use mathlib.Core.Path.{◌≡◌}
use Rattle.hexdigits.specs.Hex.{number_at}
use Rattle.hexdigits.proofs.number_at.Given as goal

abbrev pub invariant-loop-k : goal.invariant-loop-k
invariant-loop-k l = l.n ≡ number_at l.line l.i l.k
