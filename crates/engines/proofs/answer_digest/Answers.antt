-- `engines::answer_digest` meets its contract.
use Rattle.engines.proofs.answer_digest.Goals as goal

pub returns-in-Heard : goal.returns-in-Heard
returns-in-Heard c = rw c.in-Heard.is c.of_tally.ensures
