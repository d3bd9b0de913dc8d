-- `dumps::fill_from_memory`: below each place the entries are written.
use Rattle.dumps.proofs.Memory.{Written}
use Rattle.dumps.proofs.fill_from_memory.Given as goal

abbrev pub invariant-loop-s : goal.invariant-loop-s
invariant-loop-s l = Written l.input l.slots l.s
