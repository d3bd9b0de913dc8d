-- `engines::role_of` meets its contract.
use Rattle.engines.proofs.Numbers.{replica_of}
use Rattle.engines.proofs.role_of.Goals as goal

pub returns : goal.returns
returns c = replica_of _ c.if-number-eq0.false
