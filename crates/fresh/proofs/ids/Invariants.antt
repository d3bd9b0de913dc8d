-- `fresh::ids` meets its contract: the numbers below k have their ids.
use mathlib.Core.Path.{◌≡◌}
use lib.ListN.{length}
use Rattle.tables.specs.Sizes.{node_room}
use Rattle.fresh.specs.Fresh.{ids_of}
use Rattle.fresh.proofs.ids.Given as goal

abbrev pub invariant-loop-k : goal.invariant-loop-k
invariant-loop-k l = (length l.ids ≡ node_room) × (l.ids ≡ ids_of l.k)
