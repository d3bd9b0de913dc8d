-- `words::up_to`: what the search found, or the end.
use Rattle.words.proofs.Words.{found}
use Rattle.words.proofs.up_to.Goals as goal

pub returns : goal.returns
returns c = rw c.unwrap_or.ensures (found _ _ _ c.first_byte.ensures)
