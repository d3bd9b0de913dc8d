-- `tellings::put`: a part and a number behind it.
use mathlib.Core.Path.{◌∙◌}
use Rattle.std.proofs.Common.{rules}
use Rattle.lines.proofs.Writers.{same_room}
use Rattle.tellings.proofs.put.Goals as goal

pub loop-i-preserved-in-Some-get : goal.loop-i-preserved-in-Some-get
loop-i-preserved-in-Some-get c =
    (search rules, search rules, same_room _ _ c.put_number.ensures ∙ same_room _ _ c.put_text.ensures ∙ c.loop-i.invariant.2)
