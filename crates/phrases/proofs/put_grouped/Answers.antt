-- `phrases::put_grouped`: the digits are the number's, and the buffer has room for all of them.
use mathlib.Core.Path.{ap, ◌∙◌}
use Rattle.lines.specs.Writers.{extended}
use Rattle.lines.proofs.Rooms.{fits, counted, holds_decimal}
use Rattle.phrases.specs.Phrases.{commas, grouped}
use Rattle.phrases.proofs.put_grouped.Goals as goal

pub slice_bounds-digits-end : goal.slice_bounds-digits-end
slice_bounds-digits-end c = fits 20 _ c.spell-count.ensures

pub slice_bounds-put_digits-end : goal.slice_bounds-put_digits-end
slice_bounds-put_digits-end c = counted 20 _ c.spell-count.ensures

pub returns : goal.returns
unfolding grouped
returns c = c.put_digits.ensures ∙ ap (extended _) (ap commas (holds_decimal _ c.spell-count.ensures))
