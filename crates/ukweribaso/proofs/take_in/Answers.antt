-- `ukweribaso::take_in`: where a read gave no byte nothing is fed.
use Rattle.ukweribaso.proofs.Pieces.{nothing_read}
use Rattle.ukweribaso.proofs.take_in.Goals as goal

pub returns-then-count-eq0 : goal.returns-then-count-eq0
returns-then-count-eq0 g c = nothing_read _ c.args.buf.now c.unwrap_or-count.ensures c.if-count-eq0.true
