-- `replay::play` lends the list, the map, its epochs and the room for the text whole.
use mathlib.Core.Path.{sym}
use Prim.Native.Nat.{ℕ}
use lib.ListN.{length-replicate}
use Rattle.replay.proofs.play.Goals as goal

pub slice_bounds-play_lines-end : goal.slice_bounds-play_lines-end
slice_bounds-play_lines-end g c = sym (length-replicate {A = ℕ} 49152 0)

pub slice_bounds-play_lines-end-2 : goal.slice_bounds-play_lines-end-2
slice_bounds-play_lines-end-2 g c = sym (length-replicate {A = ℕ} 16384 65535)

pub slice_bounds-play_lines-end-3 : goal.slice_bounds-play_lines-end-3
slice_bounds-play_lines-end-3 g c = sym (length-replicate {A = ℕ} 16384 0)

pub slice_bounds-out-end : goal.slice_bounds-out-end
slice_bounds-out-end g c = sym (length-replicate {A = ℕ} 1114112 0)
