-- `words::value`: what is left to read is the characters from this one on.
use mathlib.Core.Path.{sym, ◌∙◌}
use native.Mathlib.Omega.{arith}
use borrow.Author.Tests.{eqb-true, eqb-false}
use Rattle.words.proofs.Numbers.{no_word, some_word, one_more, value_ended}
use Rattle.words.proofs.value.Goals as goal

pub returns-then-is_empty : goal.returns-then-is_empty
returns-then-is_empty c = (sym (no_word _ (eqb-true _ 0 (sym c.if-is_empty.ensures))), omega arith)

pub loop-c-preserved : goal.loop-c-preserved
loop-c-preserved c = (c.loop-c.invariant.0 ∙ one_more _ _ _ _ c.loop-c-test.true c.longer-v.ensures.0, c.longer-v.ensures.1)

pub returns : goal.returns
returns c = (sym (some_word _ (eqb-false _ 0 (sym c.if-is_empty.ensures)) ∙ c.loop-c.invariant.0 ∙ value_ended _ _ _ c.loop-c-test.false), c.loop-c.invariant.1)
