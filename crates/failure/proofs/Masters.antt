-- Masters gathered in a loop over the roster: one more, or none, at each number.
use mathlib.Core.Path.{◌≡◌}
use mathlib.Core.Bool.{Bool, true, false, cond}
use Prim.Native.Nat.{ℕ, ◌+◌, ◌<◌}
use Rattle.tables.specs.Sizes.{node_room}
use Rattle.nodesets.specs.NodeSets.{added}
use Rattle.nodesets.specs.declared.NodeSet.{NodeSet}
use Rattle.nodesets.proofs.Gathered.{Gathered, with_it, without_it}
use Rattle.state.specs.Node.{is_master}
use Rattle.state.specs.declared.Role.{Role}
use Rattle.failure.specs.Failure.{with_master}

pub gathers : (p : ℕ → Bool) (k : ℕ) (s : NodeSet) (role : Role) → k < node_room → p k ≡ is_master role → Gathered p k s → Gathered p (k + 1) (with_master s k role)
gathers p k s role l e g = by (is_master role) e
  where
    by : (t : Bool) → p k ≡ t → Gathered p (k + 1) (cond t (added s k) s)
    by true q = with_it p k s l q g
    by false q = without_it p k s q g
