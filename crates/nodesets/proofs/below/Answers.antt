-- `nodesets::below` meets its contract.
use mathlib.Core.Path.{◌≡◌}
use Prim.Native.Nat.{min}
use native.Mathlib.Omega.{arith}
use Rattle.tables.proofs.Words.{small, alone}
use Rattle.nodesets.proofs.below.Goals as goal

pub returns-else-n-ge-MOST_NODES : goal.returns-else-n-ge-MOST_NODES
returns-else-n-ge-MOST_NODES c = let a = c.args in let m : min a.n 64 ≡ a.n = omega arith in rw (m, ← small a.set.word a.n) (alone _)
