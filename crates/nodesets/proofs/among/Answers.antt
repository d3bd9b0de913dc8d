-- `nodesets::among` meets its contract: the entries passed are in the set.
use mathlib.Core.Path.{sym, subst}
use Prim.Native.Nat.{◌+◌}
use Rattle.nodesets.proofs.Gathered.{Passed, passed_none, passed_more, passed_all}
use Rattle.nodesets.proofs.among.Goals as goal

pub loop-entry-init : goal.loop-entry-init
loop-entry-init c = subst (Passed c.args.entries.now 0) (sym c.none-set.ensures) (passed_none _)

pub loop-entry-preserved : goal.loop-entry-preserved
loop-entry-preserved c =
    let l = c.loop-entry in
    subst (Passed _ (l.entry-index + 1)) (sym c.add-set.ensures) (passed_more _ l.entry-index l.set c.loop-entry-test.true l.invariant)

pub returns : goal.returns
returns c = passed_all _ _ _ c.loop-entry-test.false c.loop-entry.invariant
