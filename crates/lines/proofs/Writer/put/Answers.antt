-- `lines::Writer::put`: a byte in a buffer that has room, and in a full one.
use mathlib.Core.Path.{ap}
use Rattle.lines.proofs.Texts.{fits, full}
use Rattle.lines.proofs.Writers.{with_text}
use Rattle.lines.proofs.Writer.put.Goals as goal

pub returns-then-self : goal.returns-then-self
returns-then-self c = ap (with_text c.args.self.now) (fits _ _ _ c.if-self.true)

pub returns-else-self : goal.returns-else-self
returns-else-self c = ap (with_text c.args.self.now) (full _ _ _ c.if-self.false)
