-- `probes::tick` meets its contract.
use mathlib.Core.Path.{◌≡◌}
use mathlib.Core.Bool.{true}
use Rattle.tables.specs.Below.{in_turn}
use Rattle.nodesets.proofs.Gathered.{Gathered}
use Rattle.state.specs.Node.{master_at}
use Rattle.failure.specs.Failure.{looked_at}
use Rattle.probes.specs.Probes.{suspected}
use Rattle.probes.proofs.Ticks.{NonePfail}
use Rattle.probes.proofs.tick.Given as goal

abbrev pub invariant-loop-k : goal.invariant-loop-k
invariant-loop-k l =
    (l.next ≡ in_turn suspected l.k l.initial.next) × Gathered (master_at l.initial.next) l.k l.masters × (l.quiet ≡ true → NonePfail l.k l.next)

abbrev pub invariant-loop-s : goal.invariant-loop-s
invariant-loop-s l = l.next ≡ in_turn (looked_at l.voters l.reports) l.s l.initial.next
