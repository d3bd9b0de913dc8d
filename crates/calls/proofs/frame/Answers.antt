-- `calls::frame`: the digits, and the bitmap behind them.
use mathlib.Core.Path.{◌∙◌}
use Rattle.lines.proofs.Writers.{same_room}
use Rattle.calls.proofs.frame.Goals as goal

pub returns-then-not-is_empty : goal.returns-then-not-is_empty
returns-then-not-is_empty c = c.put_bitmap.ensures ∙ same_room _ _ c.put_text.ensures

pub returns-else-not-is_empty : goal.returns-else-not-is_empty
returns-else-not-is_empty c = same_room _ _ c.put_text.ensures
