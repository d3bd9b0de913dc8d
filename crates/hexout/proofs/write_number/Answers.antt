-- `hexout::write_number`: with the bytes in front of it written too, the text is whole.
use mathlib.Core.Path.{◌≡◌, sym, ◌∙◌}
use Prim.Native.Nat.{suc, ◌-◌}
use native.Mathlib.Omega.{arith}
use Rattle.hexdigits.specs.Hex.{hex, bytes_of}
use Rattle.hexdigits.proofs.Over.{over_nothing, last_written}
use Rattle.hexout.proofs.write_number.Goals as goal

pub loop-k-preserved : goal.loop-k-preserved
loop-k-preserved c =
    let l = c.loop-k in
    let e : suc (l.k - 1) ≡ l.k = omega arith in
    rw c.write_after.ensures (last_written l.out c.args.i (l.k - 1) l.rest ∙ rw e l.invariant)

pub returns : goal.returns
unfolding hex bytes_of
returns c =
    let e : c.loop-k.k ≡ 0 = omega arith in
    sym (over_nothing _ _) ∙ rw e at c.loop-k.invariant
