-- `keyslots::answer_lines`: the newline that was found stands ahead, and before the end.
use mathlib.Core.Path.{sym}
use native.Mathlib.Omega.{arith}
use Rattle.lines.proofs.Moves.{ends_ahead}
use Rattle.keyslots.proofs.answer_lines.Goals as goal

pub overflow_add-from : goal.overflow_add-from
overflow_add-from g c = omega (arith, (ends_ahead _ _ _ _ (sym c.in-Some.ensures)).1)

pub overflow_add-look : goal.overflow_add-look
overflow_add-look g c = omega (arith, (ends_ahead _ _ _ _ (sym c.in-Some.ensures)).1)

pub loop-stop-smaller : goal.loop-stop-smaller
loop-stop-smaller g c =
    let next = ends_ahead _ _ _ _ (sym c.in-Some.ensures) in omega (arith, next.0, next.1)
