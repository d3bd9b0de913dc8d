-- `totals::put_totals`: three pieces, one behind the other.
use Rattle.lines.specs.Texts.{ascii}
use Rattle.lines.proofs.Texts.{puts_append}
use Rattle.totals.specs.Totals.{totals}
use Rattle.totals.proofs.put_totals.Goals as goal

pub returns : goal.returns
unfolding totals ascii
returns c = simp (c.put_remainder.ensures, c.put_shares.ensures, c.put_text.ensures, ← c.ownerless.ensures, puts_append)
