-- `slots::with_sixteen`: the table's rule.
use Rattle.std.proofs.Common.{rules}
use Rattle.slots.proofs.Crc.{by_table}
use Rattle.slots.proofs.with_sixteen.Goals as goal

pub returns : goal.returns
returns c = by_table c.args.crc (search rules) _ c.half_bytes-table.ensures
