-- `engines::node_of` meets its contract: the nodes below k are as they are lent.
use mathlib.Core.Path.{◌≡◌}
use Rattle.tables.specs.Below.{in_turn}
use Rattle.engines.specs.Engines.{lent_at}
use Rattle.engines.proofs.node_of.Given as goal

abbrev pub invariant-loop-k : goal.invariant-loop-k
invariant-loop-k l = l.next ≡ in_turn (lent_at l.epochs l.roles) l.k l.initial.next
