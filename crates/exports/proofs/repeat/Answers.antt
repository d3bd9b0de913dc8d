-- `exports::repeat`: what is left is the line so many times more.
use Rattle.std.proofs.Common.{◌∙◌, sym, arith}
use Rattle.exports.proofs.Steps.{more, none}
use Rattle.exports.proofs.repeat.Goals as goal

pub loop-turn-preserved : goal.loop-turn-preserved
loop-turn-preserved c = c.loop-turn.invariant ∙ more _ c.args.times c.loop-turn._turn _ _ c.loop-turn-test.true c.frame-outcome.ensures

pub returns : goal.returns
returns c = sym (c.loop-turn.invariant ∙ none _ _ _ (omega arith))
