-- `gateway::start` meets its contract.
use Rattle.gateway.specs.Gateway.{started}
use Rattle.gateway.proofs.start.Goals as goal

pub returns : goal.returns
unfolding started
returns c = rw c.first_stage.ensures
