-- `totals::put_shares`: the shares of the nodes below k are written.
use native.Mathlib.Numerals.{add-one}
use mathlib.Core.Path.{sym}
use Rattle.lines.proofs.Writers.{then, extended_none}
use Rattle.totals.specs.Totals.{shares}
use Rattle.totals.proofs.put_shares.Goals as goal

pub loop-k-init : goal.loop-k-init
unfolding shares
loop-k-init c = sym (extended_none _)

pub loop-k-preserved : goal.loop-k-preserved
unfolding shares
loop-k-preserved c = rw (add-one c.loop-k.k, shares, ← c.owned.ensures) (then _ _ _ c.loop-k.invariant (rw c.from.ensures at c.put_share.ensures))
