-- `listing::write`: what is written, and the ranges from the slot on behind it.
use Prim.Native.Nat.{◌-◌}
use lib.ListN.{length}
use Rattle.listing.proofs.Writing.{Going}
use Rattle.listing.proofs.write.Given as goal

abbrev pub invariant-loop-s : goal.invariant-loop-s
invariant-loop-s l = Going l.size l.slots l.initial.list l.list l.s l.at

abbrev pub decreases-loop-s : goal.decreases-loop-s
decreases-loop-s l = length l.slots - l.s
