-- `engines::known_of` meets its contract.
use mathlib.Core.Path.{ap}
use Rattle.state.specs.Changes.{with_config}
use Rattle.state.specs.declared.Role.{Role}
use Rattle.fresh.specs.Fresh.{newcomer}
use Rattle.engines.proofs.known_of.Goals as goal

pub returns : goal.returns
returns c = ap (λ (r : Role). with_config c.args.config (newcomer r)) c.role_of.ensures
