-- `feed::answer`: what is shown stands within what was lent or kept.
use mathlib.Core.Path.{sym}
use Prim.Native.Nat.{◌≤◌}
use native.Mathlib.Omega.{arith}
use lib.ListN.{length}
use lib.Seq.{length-take-le}
use Rattle.feed.proofs.Lines.{shown_within, whole, begun}
use Rattle.feed.proofs.answer.Goals as goal

pub slice_bounds-frame-end : goal.slice_bounds-frame-end
slice_bounds-frame-end c = sym (length-take-le _ _ (let within : c.shown-end.result ≤ length c.args.last.now = omega (arith, c.shown-end.ensures, shown_within (length c.args.last.now)) in within))

pub returns-then-kept-eq0 : goal.returns-then-kept-eq0
returns-then-kept-eq0 c =
    whole _ _ _ _ _ _ c.if-kept-eq0.true c.shown-end.ensures c.frame.ensures

pub returns : goal.returns
returns c =
    begun _ _ _ _ _ _ c.keep-line.ensures c.shown-end-2.ensures c.frame-2.ensures
