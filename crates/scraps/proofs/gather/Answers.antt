-- `scraps::gather`: the newline stands within the piece.
use mathlib.Core.Path.{sym, ◌∙◌}
use Prim.Native.Nat.{◌<◌}
use native.Mathlib.Omega.{arith}
use lib.ListN.{length}
use lib.Seq.{length-take-le}
use Rattle.tables.proofs.Walks.{first_within}
use Rattle.scraps.specs.Scraps.{takes}
use Rattle.scraps.proofs.gather.Goals as goal

pub overflow_add-used : goal.overflow_add-used
overflow_add-used c = omega (arith, (let ahead : c.in-Some.k < length c.args.piece.now = omega (arith, first_within _ _ 0 _ (sym c.first_byte.ensures ∙ c.in-Some.is)) in ahead))

pub slice_bounds-keep-end : goal.slice_bounds-keep-end
slice_bounds-keep-end c = sym (length-take-le _ _ (omega (arith, (let ahead : c.in-Some.k < length c.args.piece.now = omega (arith, first_within _ _ 0 _ (sym c.first_byte.ensures ∙ c.in-Some.is)) in ahead))))

pub returns-in-None : goal.returns-in-None
unfolding takes
returns-in-None c = rw (← c.first_byte.ensures, c.in-None.is, c.keep.ensures)

pub returns-in-Some : goal.returns-in-Some
unfolding takes
returns-in-Some c = rw (← c.first_byte.ensures, c.in-Some.is, c.keep-in-Some.ensures)
