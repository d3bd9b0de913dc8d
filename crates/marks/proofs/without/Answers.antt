-- `marks::without` meets its contract.
use mathlib.Core.Path.{◌≡◌, refl, sym, ap, ap₂, ◌∙◌}
use mathlib.Core.List.{List, [], ◌∷◌, ◌++◌}
use Prim.Native.Nat.{ℕ, ◌+◌}
use native.Mathlib.Omega.{arith}
use lib.ListN.{length, take, drop, get_or, length-append}
use lib.Seq.{take_all}
use Rattle.state.specs.Node.{no_mark}
use Rattle.state.specs.Changes.{with_marks}
use Rattle.state.specs.declared.Mark.{Mark}
use Rattle.marks.specs.Marks.{marks_of, others}
use Rattle.marks.proofs.Loops.{left_out, kept, laid}
use Rattle.marks.proofs.without.Goals as goal
use Rattle.marks.proofs.without.Goals.{then-mark-slot, else-mark-slot}

pub loop-mark-init : goal.loop-mark-init
unfolding others
loop-mark-init c = (omega arith, refl, refl)

pub loop-mark-preserved : goal.loop-mark-preserved
loop-mark-preserved c =
    let l = c.loop-mark in
    let L = c.marks_of-marks.result.now in
    let F = others c.args.slot (take l.mark-index L) in
    let x = get_or L l.mark-index no_mark in
    elim c.if-mark-slot.branch [
      | then-mark-slot w ↦
          let e = kept L c.args.slot l.mark-index (omega arith) w.if-mark-slot.true in
          rw (w.kept-is, w.j-is) (omega arith, ap length e ∙ length-append F (x ∷ []) ∙ ap (λ (n : ℕ). n + 1) l.invariant.1, rw (l.invariant.2, e) (laid F c.args.node.marks l.j x l.invariant.1 (omega arith)))
      | else-mark-slot w ↦
          let e = left_out L c.args.slot l.mark-index (omega arith) w.if-mark-slot.false in
          rw (w.kept-is, w.j-is) (omega arith, ap length e ∙ l.invariant.1, rw e l.invariant.2)
    ]

pub returns : goal.returns
returns c =
    let n = c.args.node in
    let l = c.loop-mark in
    let all : take l.mark-index c.marks_of-marks.result.now ≡ marks_of n = take_all l.mark-index _ (omega arith) ∙ c.marks_of-marks.ensures.0 in
    let g = rw all at l.invariant.1 in
    c.with_marks.ensures ∙ ap₂ (λ (xs : List Mark) (k : ℕ). with_marks xs k n) (rw all at l.invariant.2 ∙ ap (λ (k : ℕ). others c.args.slot (marks_of n) ++ drop k n.marks) (sym g)) (sym g)
