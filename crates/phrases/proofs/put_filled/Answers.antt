-- `phrases::put_filled`: what is left to write is the text from this byte on, with the numbers that are left.
use mathlib.Core.Path.{sym, ap, ◌∙◌}
use Prim.Native.Nat.{ℕ}
use Rattle.std.specs.Prelude.{Option}
use Rattle.std.specs.Option.{unwrap_or}
use Rattle.lines.proofs.Texts.{puts_append}
use Rattle.lines.proofs.Writers.{extended_none}
use Rattle.phrases.proofs.Filled.{next_number, next_byte, no_byte, taken}
use Rattle.phrases.proofs.put_filled.Goals.{then-byte-eq-PERCENT, else-byte-eq-PERCENT}
use Rattle.phrases.proofs.put_filled.Goals as goal

pub loop-byte-init : goal.loop-byte-init
loop-byte-init c = rw c.iter-left.ensures.rest

pub loop-byte-preserved : goal.loop-byte-preserved
loop-byte-preserved c =
    let l = c.loop-byte in
    let text = c.args.text.now in
    let left = l.left.rest.now in
    l.invariant
    ∙ elim c.if-byte-eq-PERCENT.branch [
      | then-byte-eq-PERCENT w ↦
          let t = taken _ _ _ w.next.ensures.steps in
          let n = w.unwrap_or.ensures ∙ ap (λ (o : Option ℕ). unwrap_or o 0) w.copied.ensures ∙ t.0 in
          simp (w.out-is, w.left-is, w.put_grouped.ensures, n, t.1, next_number text left l.byte-index c.loop-byte-test.true w.if-byte-eq-PERCENT.true, puts_append)
      | else-byte-eq-PERCENT w ↦
          simp (w.out-is, w.left-is, w.put.ensures, next_byte text left l.byte-index c.loop-byte-test.true w.if-byte-eq-PERCENT.false, puts_append)
    ]

pub returns : goal.returns
returns c = sym (c.loop-byte.invariant ∙ simp (no_byte c.args.text.now c.loop-byte.left.rest.now c.loop-byte.byte-index c.loop-byte-test.false) (extended_none _))
