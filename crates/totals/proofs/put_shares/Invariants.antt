-- `totals::put_shares`: the shares of the nodes below k are written.
use mathlib.Core.Path.{◌≡◌}
use Rattle.lines.specs.Writers.{extended}
use Rattle.totals.specs.Totals.{shares}
use Rattle.totals.proofs.put_shares.Given as goal

abbrev pub invariant-loop-k : goal.invariant-loop-k
invariant-loop-k l = l.out ≡ extended l.initial.out (shares l.slots l.k)
