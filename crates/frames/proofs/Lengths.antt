-- A line of a length that no kind has is no frame.
use Rattle.std.specs.Prelude.{None, Option, Some}
use mathlib.Core.Path.{◌≡◌, refl}
use mathlib.Core.Bool.{Bool, true, false, cond}
use mathlib.Core.List.{List}
use Prim.Native.Nat.{ℕ}
use lib.Dec.{eqb}
use lib.ListN.{length}
use Rattle.hexdigits.specs.Hex.{all_digits, byte_at}
use Rattle.frames.specs.Frames.{kind_of, layout_of, digits_of, framed, frame_of}
use Rattle.frames.specs.declared.Kind.{Kind}
use Rattle.frames.specs.declared.Layout.{Layout}

pub no_frame : (line : List ℕ) → ((x : Layout) → eqb (length line) (digits_of x) ≡ false) → frame_of line ≡ None
unfolding frame_of
no_frame line h = go (all_digits line) (kind_of (byte_at line 0) (byte_at line 1) (byte_at line 2) (byte_at line 3))
  where
    go : (t : Bool) (l : Option Kind) → cond t (framed line l) None ≡ None
    go false l = refl
    go true None = refl
    go true (Some kind) = rw (h (layout_of kind))
