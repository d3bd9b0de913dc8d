-- `ukweribaso::answer_lines`: a call that answers a line uses some of the piece, and no call uses more than there is. What is
-- left of the piece comes to what the whole piece comes to.
use mathlib.Core.Path.{refl, sym, ◌∙◌}
use native.Mathlib.Omega.{arith}
use borrow.Author.Rules.{rules}
use Rattle.ukweribaso.proofs.Pieces.{uses, answered, finished}
use Rattle.ukweribaso.proofs.answer_lines.Goals as goal

pub overflow_add-from : goal.overflow_add-from
overflow_add-from g c =
    let used = uses _ c.args.piece.now c.loop-answer.from c.feed-fed.ensures _ c.in-Some.is in
    omega (arith, used.1, c.loop-answer.invariant)

pub loop-answer-smaller : goal.loop-answer-smaller
loop-answer-smaller g c =
    let used = uses _ c.args.piece.now c.loop-answer.from c.feed-fed.ensures _ c.in-Some.is in
    omega (arith, used.0, used.1)

pub loop-answer-preserved : goal.loop-answer-preserved
loop-answer-preserved g c =
    let used = uses _ c.args.piece.now c.loop-answer.from c.feed-fed.ensures _ c.in-Some.is in (
      search rules,
      search rules,
      omega (arith, used.1, c.loop-answer.invariant.2),
      c.loop-answer.invariant.3 ∙ answered _ c.args.piece.now c.loop-answer.from c.feed-fed.ensures _ c.in-Some.is _ refl,
    )

pub returns-in_default : goal.returns-in_default
returns-in_default g c =
    sym (c.loop-answer.invariant.3 ∙ finished _ c.args.piece.now c.loop-answer.from c.feed-fed.ensures c.in_default.is)
