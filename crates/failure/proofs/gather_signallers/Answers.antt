-- `failure::gather_signallers` meets its contract: those of the numbers passed that signal.
use mathlib.Core.Path.{◌≡◌}
use mathlib.Core.Bool.{false}
use mathlib.Core.List.{List}
use Prim.Native.Nat.{ℕ, ◌≤◌}
use native.Mathlib.Omega.{arith}
use borrow.Author.Tests.{le-ltb}
use Rattle.nodesets.specs.declared.NodeSet.{NodeSet}
use Rattle.nodesets.proofs.Gathered.{with_it, without_it, at_last}
use Rattle.state.specs.declared.Node.{Node}
use Rattle.failure.specs.Failure.{signals}
use Rattle.failure.proofs.gather_signallers.Goals as goal
use Rattle.failure.proofs.gather_signallers.Goals.{then-is_signaller, else-is_signaller}

-- past the roster nobody signals
unlisted : (n : Node) (voters : NodeSet) (reports : List ℕ) (s k : ℕ) → n.size ≤ k → signals n voters reports s k ≡ false
unfolding signals
unlisted n voters reports s k l = rw (le-ltb k n.size l)

pub loop-k-preserved : goal.loop-k-preserved
loop-k-preserved c =
    let l = c.loop-k in
    elim c.if-is_signaller.branch [
      | then-is_signaller w ↦ rw (w.set-is, w.add-set.ensures) (with_it _ l.k l.set (omega arith) (cc) l.invariant)
      | else-is_signaller w ↦ rw w.set-is (without_it _ l.k l.set (cc) l.invariant)
    ]

pub returns : goal.returns
returns c = let l = c.loop-k in at_last _ l.k l.set (λ k h g. unlisted _ _ _ _ k (omega arith)) (omega arith) l.invariant
