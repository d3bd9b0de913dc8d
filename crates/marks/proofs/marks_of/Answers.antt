-- `marks::marks_of` meets its contract.
use native.Mathlib.Omega.{arith}
use lib.ListN.{length-take}
use Rattle.marks.proofs.Loops.{front_all}
use Rattle.marks.proofs.marks_of.Goals as goal

pub returns : goal.returns
returns c = let n = c.args.node.now in (front_all n.marks n.marked c.min.result (omega arith), omega (arith, length-take c.min.result n.marks))
