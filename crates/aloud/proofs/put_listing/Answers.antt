-- `aloud::put_listing`: what is left to say is the ranges that are left, and the slots from `next` on.
use mathlib.Core.Path.{◌≡◌, sym, ◌∙◌}
use Prim.Native.Nat.{◌-◌}
use native.Mathlib.Omega.{arith}
use lib.ListN.{length, take, drop, length-drop}
use lib.Seq.{take_all}
use Rattle.lines.proofs.Texts.{puts_append}
use Rattle.aloud.proofs.Listings.{next_range, no_range}
use Rattle.aloud.proofs.put_listing.Goals as goal

pub loop-left-preserved : goal.loop-left-preserved
loop-left-preserved c =
    let l = c.loop-left.left.now in
    let rest : take (length l - 3) (drop 3 l) ≡ drop 3 l = take_all (length l - 3) (drop 3 l) (omega (arith, length-drop 3 l)) in
    c.loop-left.invariant
    ∙ simp (
      next_range c.args.margin.now l c.loop-left.next c.in-len3-up.len_at_least,
      c.put_owned.ensures,
      c.put_text.ensures,
      c.put_gap.ensures,
      c.from.ensures,
      c.from-in-len3-up.ensures,
      c.from-in-len3-up-2.ensures,
      c.from-in-len3-up-3.ensures,
      c.from-next.ensures,
      puts_append,
      rest,
    )

pub returns : goal.returns
returns c =
    sym (c.loop-left.invariant ∙ simp (no_range c.args.margin.now c.loop-left.left.now c.loop-left.next c.in_default.len_below, c.put_gap-2.ensures, c.from-2.ensures))
