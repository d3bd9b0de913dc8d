-- `dumps::fill_from_text`: the digits before each place are taken in.
use Rattle.dumps.proofs.Text.{Filling}
use Rattle.dumps.proofs.fill_from_text.Given as goal

abbrev pub invariant-loop-c : goal.invariant-loop-c
invariant-loop-c l = Filling l.input l.slots l.n l.c-index
