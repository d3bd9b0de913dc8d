-- `lines::unfinished`: a line that is too long keeps nothing.
use Rattle.lines.proofs.Moves.{gone, nothing, kept}
use Rattle.lines.proofs.unfinished.Goals as goal

pub returns-then-lost : goal.returns-then-lost
returns-then-lost c = rw c.if-lost.true (gone _ _ _)

pub returns-then-from-end : goal.returns-then-from-end
returns-then-from-end c = rw c.if-lost.false (nothing _ _ _ c.then-from-end.either)

pub returns : goal.returns
returns c = rw c.if-lost.false (kept _ _ _ c.if-from-end.false c.if-end-buf.false c.copy_within.ensures.after)
