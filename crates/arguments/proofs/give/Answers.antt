-- `arguments::give`: the entries below s are rewritten.
use native.Mathlib.Omega.{arith}
use Rattle.tables.proofs.Walks.{rewritten_none, rewritten_all}
use Rattle.arguments.specs.Bytes.{given}
use Rattle.arguments.proofs.Bytes.{one_given}
use Rattle.arguments.proofs.give.Goals as goal

pub loop-s-init : goal.loop-s-init
loop-s-init c = rewritten_none _ _

pub loop-s-preserved : goal.loop-s-preserved
loop-s-preserved c = one_given _ _ _ c.loop-s.invariant (omega (arith, c.loop-s.invariant.long)) c.chosen.ensures

pub shape_of-table : goal.shape_of-table
shape_of-table c = c.loop-s.invariant.long

pub returns : goal.returns
unfolding given
returns c = rewritten_all _ _ _ _ c.loop-s.invariant (omega (arith, c.loop-s.invariant.long))
