-- `hexout::write_after` meets its contract.
use mathlib.Core.Path.{◌∙◌}
use Rattle.hexdigits.specs.Hex.{hex}
use Rattle.hexdigits.proofs.Over.{two_written}
use Rattle.hexout.proofs.write_after.Goals as goal

pub returns : goal.returns
unfolding hex
returns c = c.put-2.ensures ∙ rw c.put.ensures (two_written _ _ _ _ _ _ (rw (c.digit_of-2.ensures, c.digit_of.ensures)))
