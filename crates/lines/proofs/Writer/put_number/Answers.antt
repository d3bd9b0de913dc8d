-- `lines::Writer::put_number`: the digits are those of the number's decimal spelling.
use mathlib.Core.Path.{ap, ◌∙◌}
use native.Mathlib.Omega.{arith}
use Rattle.lines.specs.Writers.{extended}
use Rattle.lines.proofs.Texts.{spelled}
use Rattle.lines.proofs.Writer.put_number.Goals as goal

pub returns : goal.returns
returns c =
    let d = c.decimal-count.ensures in
    c.put_text.ensures ∙ ap (extended _) (spelled _ _ _ (omega arith) d.len d.digits)
