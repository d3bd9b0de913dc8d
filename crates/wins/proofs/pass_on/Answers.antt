-- `wins::pass_on` meets its contract: a table rewritten from the front, and what was rewritten counted.
use mathlib.Core.Path.{sym, ap₂, ◌∙◌}
use Prim.Native.Nat.{◌≤◌, ◌<◌}
use native.Mathlib.Omega.{arith}
use lib.ListN.{length, length-set, drop_of_length-le}
use borrow.Author.Tests.{eq-eqb, ne_eqb}
use Rattle.tables.specs.Lists.{count_from}
use Rattle.tables.proofs.Walks.{rewritten_all, stored, map_turn, count_hit, count_miss}
use Rattle.wins.proofs.Passing.{passing_of}
use Rattle.wins.proofs.pass_on.Goals as goal
use Rattle.wins.proofs.pass_on.Goals.{then-owner-old, else-owner-old}

pub returns : goal.returns
unfolding count_from
returns c =
    let i = c.loop-owner.invariant in
    let h : length c.loop-owner.slots ≤ c.loop-owner.owner-index = omega arith in
    ap₂ passing_of (sym (i.2 ∙ rw (drop_of_length-le _ h) (omega arith))) (rewritten_all _ _ _ _ i.0 h)

pub loop-owner-preserved : goal.loop-owner-preserved
loop-owner-preserved c =
    let i = c.loop-owner.invariant in
    let t : c.loop-owner.owner-index < length c.loop-owner.slots = omega arith in
    elim c.if-owner-old.branch [
      | then-owner-old w ↦
          let e = eq-eqb _ _ w.if-owner-old.true in (
            record {
              within = omega arith;
              long = rw (w.slots-is, length-set) i.0.long;
              rest = rw w.slots-is (i.0.rest ∙ map_turn 0 t (stored _ _ t _) _ (rw e));
            },
            omega (arith, w.count-is, i.1),
            rw (w.slots-is, w.count-is) (i.2 ∙ count_hit 0 t (stored _ _ t _) _ _ e),
          )
      | else-owner-old w ↦
          let e = ne_eqb _ _ w.if-owner-old.false in (
            record {
              within = omega arith;
              long = rw (w.slots-is, length-set) i.0.long;
              rest = rw w.slots-is (i.0.rest ∙ map_turn 0 t (stored _ _ t _) _ (rw e));
            },
            omega (arith, w.count-is, i.1),
            rw (w.slots-is, w.count-is) (i.2 ∙ count_miss 0 t (stored _ _ t _) _ _ e),
          )
    ]
