-- The bitmap of a line has 2,048 bytes.
use mathlib.Core.Path.{◌≡◌}
use mathlib.Core.List.{List}
use Prim.Native.Nat.{ℕ}
use lib.ListN.{length}
use Rattle.hexdigits.proofs.Bytes.{length_bytes}
use Rattle.frames.specs.Frames.{bitmap_of}

pub bitmap_long : (l : List ℕ) → length (bitmap_of l) ≡ 2048
unfolding bitmap_of
bitmap_long l = length_bytes l 28 2048
