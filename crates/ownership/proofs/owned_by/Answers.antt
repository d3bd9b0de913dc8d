-- `ownership::owned_by` meets its contract: the entries so far were looked at.
use mathlib.Core.Path.{◌≡◌, refl, ◌∙◌}
use mathlib.Core.Bool.{Bool, true, false, cond, ◌&&◌}
use mathlib.Core.List.{List}
use Prim.Native.Nat.{ℕ, ◌+◌, ◌-◌, ◌<◌}
use native.Mathlib.Numerals.{add-one}
use native.Mathlib.Omega.{arith}
use lib.Dec.{eqb}
use lib.ListN.{get_or, take, drop}
use Rattle.std.proofs.lemmas.List.{get_or-drop, get_or-take, length-take}
use borrow.Author.Tests.{ne_eqb}
use Rattle.tables.specs.Below.{every}
use Rattle.tables.proofs.Below.{every_fails}
use Rattle.ownership.proofs.owned_by.Goals as goal

and-cond : (a b : Bool) → (a && b) ≡ cond b a false
and-cond true true = refl
and-cond true false = refl
and-cond false true = refl
and-cond false false = refl

pub returns-then-slots-from : goal.returns-then-slots-from
returns-then-slots-from c =
    let a = c.args in
    let e : a.from + 0 ≡ a.from = omega arith in
    every_fails (λ k. eqb (get_or a.slots.now (a.from + k) 0) a.node) 64 0 (omega arith) (rw e (ne_eqb _ _ c.if-slots-from.true))

pub loop-owner-init : goal.loop-owner-init
unfolding every
loop-owner-init c = refl

-- an entry of the 64
entry_at : (l : List ℕ) (from k : ℕ) → k < 64 → get_or (take (from + 64 - from) (drop from l)) k 0 ≡ get_or l (from + k) 0
entry_at l from k h = get_or-take (from + 64 - from) (drop from l) k 0 (omega arith) ∙ get_or-drop from l k 0

pub loop-owner-preserved : goal.loop-owner-preserved
unfolding every
loop-owner-preserved c =
    let l = c.loop-owner in
    let a = c.args in
    let h : l.owner-index < 64 = omega (arith, c.loop-owner-test.true, length-take (a.from + 64 - a.from) (drop a.from a.slots.now)) in
    rw (entry_at a.slots.now a.from l.owner-index h, add-one l.owner-index, every, ← l.invariant) (and-cond l.all _)
