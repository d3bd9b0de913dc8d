-- `phrases::put_digit`: the comma's two conditions.
use mathlib.Core.Path.{sym, ap, ◌∙◌}
use native.Mathlib.Omega.{arith}
use Rattle.lines.specs.Writers.{extended}
use Rattle.lines.proofs.Writers.{then}
use Rattle.phrases.proofs.Commas.{before_groups}
use Rattle.phrases.proofs.put_digit.Goals as goal

pub returns-then-behind-eq0 : goal.returns-then-behind-eq0
returns-then-behind-eq0 c =
    then _ _ _ c.put.ensures c.put-then-behind-eq0.ensures ∙ ap (extended _) (sym (before_groups _ _ (omega arith) c.if-behind-eq0.true))
