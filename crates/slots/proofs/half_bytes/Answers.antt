-- `slots::half_bytes`: the table has its rule by one computed test.
use Rattle.std.proofs.Common.{refl}
use Rattle.tables.specs.Below.{every}
use Rattle.slots.specs.Key.{with_bit, with_bits}
use Rattle.slots.proofs.Crc.{entry_of, entries_right, by_half_byte}
use Rattle.slots.proofs.half_bytes.Goals as goal

pub returns : goal.returns
unfolding entries_right entry_of every with_bits with_bit
returns c = by_half_byte _ refl
