-- `arguments::put_digits`: after j turns the first j digits are written.
use mathlib.Core.Path.{refl}
use Rattle.lines.specs.Texts.{puts}
use Rattle.lines.proofs.Texts.{puts_append}
use Rattle.arguments.specs.Bytes.{digits_below}
use Rattle.arguments.proofs.Bytes.{one_digit}
use Rattle.arguments.proofs.put_digits.Goals as goal

pub loop-j-init : goal.loop-j-init
unfolding digits_below puts
loop-j-init c = refl

pub loop-j-preserved : goal.loop-j-preserved
loop-j-preserved c = simp (c.put.ensures, c.loop-j.invariant, c.digit.ensures, one_digit, puts_append)
