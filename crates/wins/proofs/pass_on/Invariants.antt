-- `wins::pass_on` meets its contract: a table rewritten from the front, and what was rewritten counted.
use mathlib.Core.Path.{◌≡◌}
use mathlib.Core.Bool.{Bool, cond}
use Prim.Native.Nat.{ℕ, ◌+◌, ◌≤◌}
use lib.Dec.{eqb}
use lib.ListN.{drop}
use Rattle.tables.specs.Lists.{count_from, count_at}
use Rattle.tables.proofs.Walks.{Rewritten}
use Rattle.wins.proofs.pass_on.Given as goal

abbrev pub hits : ℕ → ℕ → ℕ → Bool
hits old s owner = eqb owner old

abbrev pub invariant-loop-owner : goal.invariant-loop-owner
invariant-loop-owner l = Rewritten (λ slot owner. cond (hits l.old slot owner) l.me owner) l.initial.slots l.slots l.owner-index × (l.count ≤ l.owner-index) × (count_at (hits l.old) l.initial.slots ≡ l.count + count_from (hits l.old) l.owner-index (drop l.owner-index l.slots))
