-- `state::masters` meets its contract: the masters among the records passed.
use mathlib.Core.Path.{◌≡◌}
use Prim.Native.Nat.{◌<◌}
use native.Mathlib.Omega.{arith}
use borrow.Author.Tests.{lt-ltb, le-ltb}
use Rattle.nodesets.proofs.Gathered.{with_it, without_it, at_last}
use Rattle.state.specs.Node.{master_at, record_at, is_master}
use Rattle.state.proofs.masters.Goals as goal
use Rattle.state.proofs.masters.Goals.{then-is_master, else-is_master}

pub loop-k-preserved : goal.loop-k-preserved
loop-k-preserved c =
    let n = c.args.node in
    let k = c.loop-k.k in
    let l : k < n.size = omega arith in
    let e : master_at n k ≡ is_master (record_at n k).role = simp (lt-ltb k n.size l) in
    elim c.if-is_master.branch [
      | then-is_master w ↦ rw (w.set-is, w.add-set.ensures) (with_it (master_at n) k c.loop-k.set (omega arith) (cc) c.loop-k.invariant)
      | else-is_master w ↦ rw w.set-is (without_it (master_at n) k c.loop-k.set (cc) c.loop-k.invariant)
    ]

pub returns : goal.returns
returns c = at_last (master_at c.args.node) c.loop-k.k c.loop-k.set (λ k h g. rw (le-ltb k c.args.node.size (omega arith))) (omega arith) c.loop-k.invariant
