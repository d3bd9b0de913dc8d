-- `feed::feed`: the newline stands within the piece, and the line is what was kept, longer by the bytes before it.
use Rattle.std.proofs.Common.{sym, arith}
use lib.Seq.{length-take-le}
use Rattle.tables.proofs.Walks.{first_within}
use Rattle.scraps.specs.Scraps.{takes}
use Rattle.feed.specs.Feed.{feeds}
use Rattle.feed.proofs.feed.Goals as goal

pub overflow_add-used : goal.overflow_add-used
overflow_add-used c = omega (arith, first_within _ c.args.piece.now 0 _ (sym c.in-Some.ensures))

pub slice_bounds-answer-end : goal.slice_bounds-answer-end
slice_bounds-answer-end c = sym (length-take-le _ _ (omega (arith, first_within _ c.args.piece.now 0 _ (sym c.in-Some.ensures))))

pub returns-in-None : goal.returns-in-None
unfolding feeds takes
returns-in-None c = rw (← c.in-None.ensures, c.keep.ensures)

pub returns-in-Some : goal.returns-in-Some
unfolding feeds takes
returns-in-Some c = rw (← c.in-Some.ensures, ← c.answer-outcome.ensures, c.none.ensures)
