-- `phrases::put_digits`: what is left to write is the digits from place i on.
use mathlib.Core.Path.{sym, ◌∙◌}
use Rattle.lines.proofs.Texts.{puts_append}
use Rattle.lines.proofs.Writers.{extended_none}
use Rattle.phrases.proofs.Commas.{next_digit, no_digit}
use Rattle.phrases.proofs.put_digits.Goals as goal

pub loop-i-preserved : goal.loop-i-preserved
loop-i-preserved c = c.loop-i.invariant ∙ simp (c.put_digit.ensures, next_digit _ _ c.loop-i-test.true, puts_append)

pub returns : goal.returns
returns c = sym (c.loop-i.invariant ∙ simp (no_digit _ _ c.loop-i-test.false) (extended_none _))
