-- `bitmaps::eight` meets its contract: a byte is below 256.
use mathlib.Core.Path.{◌∙◌}
use Rattle.bitmaps.proofs.Bytes.{eight_below, word_eight}
use Rattle.bitmaps.proofs.eight.Goals as goal

pub returns : goal.returns
returns c = let a = c.args in c.from_le_bytes.ensures ∙ word_eight a.bitmap.now a.k (eight_below a.bitmap.now a.k c.type_inv.bitmap)
