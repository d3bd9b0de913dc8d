-- `ownership::owned_by` meets its contract: the entries so far were looked at.
use mathlib.Core.Path.{◌≡◌}
use Prim.Native.Nat.{◌+◌}
use lib.Dec.{eqb}
use lib.ListN.{get_or}
use Rattle.tables.specs.Below.{every}
use Rattle.ownership.proofs.owned_by.Given as goal

abbrev pub invariant-loop-owner : goal.invariant-loop-owner
invariant-loop-owner l = l.all ≡ every l.owner-index (λ j. eqb (get_or l.slots (l.from + j) 0) l.node)
