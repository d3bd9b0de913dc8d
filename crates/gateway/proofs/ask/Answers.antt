-- `gateway::ask` meets its contract: routing's promise, taken.
use mathlib.Core.Path.{◌∙◌}
use Rattle.gateway.specs.Gateway.{asked}
use Rattle.gateway.proofs.ask.Goals as goal

pub returns : goal.returns
unfolding asked
returns c = c.take.ensures ∙ rw (c.route-redirect.ensures, c.part-key.ensures, c.with_asking-asking.ensures)
