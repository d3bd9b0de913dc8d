-- `slotwise::all_slots` meets its contract: the slots below s are done.
use Rattle.slotwise.proofs.Turns.{Goes}
use Rattle.slotwise.proofs.all_slots.Given as goal

abbrev pub invariant-loop-s : goal.invariant-loop-s
invariant-loop-s l = Goes l.node l.sender l.config l.bitmap l.initial.slots l.s l.slots l.bound l.rebound l.stale
