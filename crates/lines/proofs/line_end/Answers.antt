-- `lines::line_end`: what is found stands within the part that was searched.
use mathlib.Core.Path.{sym, ap, ◌∙◌}
use native.Mathlib.Omega.{arith}
use Rattle.lines.specs.Lines.{onwards}
use Rattle.lines.proofs.Moves.{outside, within}
use Rattle.tables.proofs.Walks.{first_within}
use Rattle.lines.proofs.line_end.Goals as goal

pub returns-in_err-get : goal.returns-in_err-get
returns-in_err-get c = c.from_residual.ensures ∙ outside _ _ _ c.in_err-get.ensures.lookup.0

pub returns-in_err-k : goal.returns-in_err-k
returns-in_err-k c =
    let l = c.in_ok-get.ensures.lookup.0 in
    c.from_residual-in_err-k.ensures ∙ ap (onwards _) c.in_err-k.ensures ∙ within _ _ _ l.0 l.1 l.2

pub overflow_add-result : goal.overflow_add-result
overflow_add-result c =
    let l = c.in_ok-get.ensures.lookup.0 in
    omega (arith, l.3, first_within _ _ 0 _ (sym c.in_ok-k.ensures))

pub returns : goal.returns
returns c =
    let l = c.in_ok-get.ensures.lookup.0 in
    ap (onwards _) c.in_ok-k.ensures ∙ within _ _ _ l.0 l.1 l.2
