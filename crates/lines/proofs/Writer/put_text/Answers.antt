-- `lines::Writer::put_text`: one more byte.
use mathlib.Core.Path.{sym}
use Rattle.std.proofs.lemmas.List.{take_more}
use Rattle.lines.proofs.Texts.{puts_append}
use Rattle.lines.proofs.Writers.{extended_none}
use Rattle.lines.proofs.Writer.put_text.Goals as goal

pub loop-byte-init : goal.loop-byte-init
loop-byte-init c = sym (extended_none _)

pub loop-byte-preserved : goal.loop-byte-preserved
loop-byte-preserved c = simp (c.put.ensures, c.loop-byte.invariant, take_more _ _ 0 c.loop-byte-test.true, puts_append)
