-- `rosters::silence` meets its contract: so many nodes below k + 2 are silent.
use mathlib.Core.Path.{◌≡◌}
use Rattle.tables.specs.Below.{in_turn}
use Rattle.rosters.specs.Rosters.{silenced_next}
use Rattle.rosters.proofs.silence.Given as goal

abbrev pub invariant-loop-k : goal.invariant-loop-k
invariant-loop-k l = l.next ≡ in_turn silenced_next l.k l.initial.next
