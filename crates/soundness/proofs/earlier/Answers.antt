-- `soundness::earlier` meets its contract.
use mathlib.Core.Path.{sym, ◌∙◌}
use Prim.Native.Nat.{◌≤◌}
use native.Mathlib.Omega.{arith}
use lib.ListN.{length, drop_of_length-le}
use Rattle.soundness.proofs.Order.{other_at, same_at}
use Rattle.soundness.specs.Sound.{before}
use Rattle.soundness.proofs.earlier.Goals as goal

pub returns-then-x-y : goal.returns-then-x-y
returns-then-x-y c = sym (c.loop-i.invariant ∙ other_at c.args.a.bytes c.args.b.bytes c.loop-i.i (omega arith) (omega arith) c.if-x-y.true)

pub loop-i-preserved : goal.loop-i-preserved
loop-i-preserved c = c.loop-i.invariant ∙ same_at c.args.a.bytes c.args.b.bytes c.loop-i.i (omega arith) (omega arith) c.if-x-y.false

pub returns : goal.returns
unfolding before
returns c = let h : length c.args.a.bytes ≤ c.loop-i.i = omega arith in
    sym (c.loop-i.invariant ∙ rw (drop_of_length-le c.args.a.bytes h))
