-- `slots::key_slot`: the two calls, and the remainder.
use Rattle.slots.specs.Key.{key_slot}
use Rattle.slots.proofs.key_slot.Goals as goal

pub returns : goal.returns
unfolding key_slot
returns c = rw (c.crc16.ensures, c.hashed_part.ensures)
