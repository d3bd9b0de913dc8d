-- `dumps::fill_from_text`: the digits before each place are taken in.
use mathlib.Core.Path.{sym, ap, ◌∙◌}
use Prim.Native.Nat.{◌/◌}
use lib.ListN.{get_or}
use Rattle.hexdigits.specs.Hex.{digit}
use Rattle.dumps.proofs.Text.{filling_none, space_left, inside, digit_in, filled, behind}
use Rattle.dumps.proofs.fill_from_text.Goals as goal
use Rattle.dumps.proofs.fill_from_text.Goals.{then-not-is_space, else-not-is_space}

pub loop-c-init : goal.loop-c-init
loop-c-init c = filling_none _ _ c.requires

pub bounds-slots-n : goal.bounds-slots-n
bounds-slots-n c = inside c.loop-c.invariant c.loop-c-test.true (sym c.is_space.ensures ∙ c.if-not-is_space.true)

pub loop-c-preserved : goal.loop-c-preserved
loop-c-preserved c =
    let l = c.loop-c in
    elim c.if-not-is_space.branch [
      | then-not-is_space w ↦
          let taken = ap (behind (get_or l.slots (l.n / 4) 0)) (w.from.ensures ∙ w.value.ensures.0 ∙ ap digit w.small.ensures) in
          rw (w.slots-is, w.n-is) (digit_in l.invariant c.loop-c-test.true (sym c.is_space.ensures ∙ w.if-not-is_space.true) _ taken)
      | else-not-is_space w ↦
          rw (w.slots-is, w.n-is) (space_left l.invariant c.loop-c-test.true (sym c.is_space.ensures ∙ w.if-not-is_space.false))
    ]

pub returns : goal.returns
returns c = filled c.loop-c.invariant c.loop-c-test.false
