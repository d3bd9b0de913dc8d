-- `slotmap::tell` meets its contract. The length of the room for what is printed is a law's, since it is too long to be computed.
use mathlib.Core.Path.{sym}
use Prim.Native.Nat.{ℕ}
use lib.ListN.{length-replicate}
use Rattle.slotmap.proofs.tell.Goals as goal

pub slice_bounds-out-end : goal.slice_bounds-out-end
slice_bounds-out-end g c = sym (length-replicate {A = ℕ} 1048576 0)
