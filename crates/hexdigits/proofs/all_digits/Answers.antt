-- `hexdigits::all_digits`: good says that every character so far is a digit.
use Rattle.hexdigits.proofs.Digits.{one_more, looked_at_all}
use Rattle.hexdigits.proofs.all_digits.Goals as goal

pub loop-c-preserved : goal.loop-c-preserved
loop-c-preserved c = one_more _ _ c.loop-c.good _ c.loop-c-test.true c.is_digit-good.ensures c.loop-c.invariant

pub returns : goal.returns
returns c = looked_at_all _ _ _ c.loop-c-test.false c.loop-c.invariant
