-- `marks::with_mark` meets its contract.
use mathlib.Core.Path.{◌≡◌, ap, ap₂, ◌∙◌}
use mathlib.Core.List.{List}
use Prim.Native.Nat.{ℕ, ◌+◌, ◌≤◌}
use native.Mathlib.Omega.{arith}
use lib.ListN.{length, length-take}
use Rattle.marks.specs.Marks.{marks_of, insert}
use Rattle.state.specs.Changes.{with_marks}
use Rattle.state.specs.declared.Mark.{Mark}
use Rattle.marks.proofs.Loops.{length_insert, moved_up}
use Rattle.marks.proofs.with_mark.Goals as goal

pub returns : goal.returns
returns c =
    let n = c.args.node in
    let m = c.args.mark in
    let at = rw c.marks_of.ensures.0 at c.place-at.ensures.0 in
    let few : c.place-at.result ≤ n.marked = omega (arith, length-take n.marked n.marks, ap length c.marks_of.ensures.0) in
    let up = moved_up n.marks n.marked c.place-at.result m (omega arith) at few in
    let long : n.marked + 1 ≡ length (insert m (marks_of n)) = omega (arith, length_insert m (marks_of n), length-take n.marked n.marks) in
    c.with_marks.ensures ∙ ap₂ (λ (xs : List Mark) (k : ℕ). with_marks xs k n) (rw (c.copy_within.ensures.after, c.from.ensures) up) long
