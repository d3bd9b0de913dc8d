-- `engines::hand`: what is left is the heartbeat so many times more.
use Rattle.std.proofs.Common.{◌∙◌, ap, sym, arith}
use Rattle.engines.specs.Engines.{digested}
use Rattle.engines.proofs.Again.{more, none}
use Rattle.engines.proofs.hand.Goals as goal

pub loop-turn-preserved : goal.loop-turn-preserved
loop-turn-preserved g c = c.loop-turn.invariant ∙ more _ c.args.times c.loop-turn._turn _ _ c.loop-turn-test.true c.heartbeat-outcome.ensures

pub returns : goal.returns
returns g c =
    rw (c.tell.ensures.0, c.tell.ensures.1, c.tell.ensures.2, ← c.node_of.ensures, ← c.role_of-said.ensures)
    (ap digested (sym (c.loop-turn.invariant ∙ none _ _ _ (omega arith))))
