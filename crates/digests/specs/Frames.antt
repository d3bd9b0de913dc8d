-- A frame in one number, for a caller that only compares.
use Rattle.std.specs.Prelude.{ℕ, ◌+◌, ◌*◌, ◌%◌, ◌^◌, List, get_or, None, Option, Some}
use Rattle.std.specs.Int.Bits.{bit_xor}
use Rattle.frames.specs.Lines.{kind_bytes}
use Rattle.frames.specs.declared.Header.{Header}
use Rattle.frames.specs.declared.Frame.{Frame}

-- the first four bytes, and the three numbers, configEpoch and time one and two bits higher
abbrev pub mixed : List ℕ → Header → ℕ
mixed four h =
    bit_xor (bit_xor (bit_xor (get_or four 0 0 + get_or four 1 0 * 256 + get_or four 2 0 * 65536 + get_or four 3 0 * 16777216) h.epoch) (h.config * 2 ^ 1 % 2 ^ 64)) (h.time * 2 ^ 2 % 2 ^ 64)

abbrev pub frame_digest : Option Frame → ℕ
frame_digest None = 0
frame_digest (Some f) = mixed (kind_bytes f.kind) f.header
