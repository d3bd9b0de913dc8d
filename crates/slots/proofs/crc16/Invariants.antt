-- `slots::crc16`: from each place on, the rest is divided on.
use Rattle.std.proofs.Common.{◌≡◌, ◌*◌, drop}
use Rattle.slots.specs.Key.{with_bytes, crc16}
use Rattle.slots.proofs.crc16.Given as goal

abbrev pub invariant-loop-pair : goal.invariant-loop-pair
invariant-loop-pair l = crc16 l.bytes ≡ with_bytes l.crc (drop (l.pair-index * 2) l.bytes)

abbrev pub invariant-loop-byte : goal.invariant-loop-byte
invariant-loop-byte l = crc16 l.bytes ≡ with_bytes l.crc (drop l.byte-index l.last)
