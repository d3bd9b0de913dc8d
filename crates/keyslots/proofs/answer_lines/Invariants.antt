-- `keyslots::answer_lines`: each turn looks further on.
use Prim.Native.Nat.{◌-◌}
use Rattle.keyslots.proofs.answer_lines.Given as goal

abbrev pub decreases-loop-stop : goal.decreases-loop-stop
decreases-loop-stop g l = l.end - l.look
