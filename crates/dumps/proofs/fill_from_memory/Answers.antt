-- `dumps::fill_from_memory`: below each place the entries are written.
use native.Mathlib.Omega.{arith}
use Rattle.dumps.proofs.Memory.{write, written_all}
use Rattle.dumps.proofs.fill_from_memory.Goals as goal

pub loop-s-preserved : goal.loop-s-preserved
loop-s-preserved c = write c.loop-s.invariant _ (omega arith) c.from_le_bytes.ensures

pub returns : goal.returns
returns c = written_all c.loop-s.invariant (omega arith)
