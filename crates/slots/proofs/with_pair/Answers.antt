-- `slots::with_pair`: two bytes come in one after the other.
use Rattle.std.proofs.Common.{rules}
use Rattle.slots.proofs.Crc.{pair}
use Rattle.slots.proofs.with_pair.Goals as goal

pub returns : goal.returns
returns c = rw (c.with_sixteen.ensures, c.from_be_bytes.ensures) (pair c.args.crc _ _ (search rules) (search rules) (search rules))
