-- The buffer for a frame's bitmap after a line was decoded.
use Rattle.std.specs.Prelude.{ℕ, List, None, Option, Some}
use Rattle.frames.specs.Frames.{layout_of, bitmap_of}
use Rattle.frames.specs.declared.Layout.{Layout}
use Rattle.frames.specs.declared.Frame.{Frame}
use Rattle.frames.specs.declared.Layout.TheVariants.{Short, Middle, Long}

-- written for the kinds that carry one
abbrev pub by_layout : Layout → List ℕ → List ℕ → List ℕ
by_layout Short bitmap out = out
by_layout Middle bitmap out = out
by_layout Long bitmap out = bitmap

abbrev pub bitmap_after : Option Frame → List ℕ → List ℕ → List ℕ
bitmap_after None line out = out
bitmap_after (Some f) line out = by_layout (layout_of f.kind) (bitmap_of line) out
