-- `heartbeats::heartbeat` meets its contract: a replica's frame.
use mathlib.Core.Path.{refl}
use native.Mathlib.Omega.{arith}
use Rattle.state.specs.Changes.{with_records}
use Rattle.heartbeats.proofs.Steps.{sender_changed, replica_heard}
use Rattle.heartbeats.proofs.heartbeat.Goals as goal

pub returns-in-Replica : goal.returns-in-Replica
unfolding with_records
returns-in-Replica c =
    let a = c.args in
    replica_heard _ _ _ _ _ _ _ c.in-Replica.is _
    (sender_changed a.node (omega arith) a.sender a.config a.role _ _ _ _ c.place_of-from.ensures refl c.heard_of-heard.ensures c.kept_of.ensures)
