-- `fresh::ids` meets its contract: the numbers below k have their ids.
use mathlib.Core.Path.{refl, sym, ap}
use lib.ListN.{length-set, replicate}
use Rattle.tables.specs.Below.{in_turn}
use Rattle.tables.proofs.Below.{in_turn_more}
use Rattle.fresh.specs.Fresh.{ids_of}
use Rattle.fresh.proofs.ids.Goals as goal

pub loop-k-init : goal.loop-k-init
unfolding ids_of in_turn
loop-k-init c = (refl, ap (replicate 64) c.id-ids.ensures)

pub loop-k-preserved : goal.loop-k-preserved
unfolding ids_of
loop-k-preserved c = let l = c.loop-k in (rw length-set l.invariant.0, rw (c.from.ensures, c.id.ensures, l.invariant.1) (sym (in_turn_more _ l.k _)))
