-- `records::configs` meets its contract: those of the nodes below k are collected.
use native.Mathlib.Omega.{arith}
use Rattle.records.proofs.Known.{collected_none, collected_more, collected_all, listed_inside}
use Rattle.records.proofs.configs.Goals as goal

pub loop-k-init : goal.loop-k-init
loop-k-init c = collected_none c.args.records.now (omega arith)

pub loop-k-preserved : goal.loop-k-preserved
loop-k-preserved c = collected_more _ (omega arith) _ _ c.loop-k.invariant (omega (arith, listed_inside c.args.size _ c.listed-k-end.ensures))

pub returns : goal.returns
returns c = collected_all _ (omega arith) _ _ _ c.loop-k.invariant (rw (← c.listed-k-end.ensures) c.loop-k-test.false) (rw (← c.listed-k-end.ensures) (omega arith))
