-- `slots::with_byte`: the byte comes in at the top.
use Rattle.std.proofs.Common.{rules}
use Rattle.slots.proofs.Crc.{one}
use Rattle.slots.proofs.with_byte.Goals as goal

pub returns : goal.returns
returns c = rw (c.with_sixteen.ensures, c.from.ensures) (one c.args.crc c.args.byte (search rules) (search rules))
