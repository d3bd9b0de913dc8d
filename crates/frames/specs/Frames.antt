-- Which line is which frame: document 01, "Frames (house)" and refusal 2.
use Rattle.std.specs.Prelude.{ℕ, Bool, cond, ◌&&◌, List, [], ◌∷◌, length, eqb, None, Option, Some}
use Rattle.tables.specs.Checks.{checked}
use Rattle.hexdigits.specs.Hex.{all_digits, byte_at, number_at, bytes_at}
use Rattle.state.specs.declared.Role.TheVariants.{Master, Replica}
use Rattle.state.specs.declared.Verdict.TheVariants as verdict
use Rattle.state.specs.declared.Echo.TheVariants.{Ping, Pong}
use Rattle.frames.specs.declared.Header.{Header}
use Rattle.frames.specs.declared.Kind.{Kind}
use Rattle.frames.specs.declared.Kind.TheVariants.{Heartbeat, Report, Fail, Request, Ack, Probe, Tick}
use Rattle.frames.specs.declared.Layout.{Layout}
use Rattle.frames.specs.declared.Frame.{Frame}
use Rattle.frames.specs.declared.Layout.TheVariants.{Short, Middle, Long}

-- The table of kinds by a line's first four bytes: kind, then those with listed values, then what the kind carries.
abbrev pub rows : ℕ → ℕ → ℕ → ℕ → List (Bool × Kind)
rows k x y z =
    (eqb k 1 && eqb y 0 && eqb z 0, Heartbeat x Master)
    ∷ (eqb k 1 && eqb y 1, Heartbeat x (Replica z))
    ∷ (eqb k 2 && eqb z 0, Report x y verdict.Fine)
    ∷ (eqb k 2 && eqb z 1, Report x y verdict.Pfail)
    ∷ (eqb k 2 && eqb z 2, Report x y verdict.Fail)
    ∷ (eqb k 3 && eqb z 0, Fail x y)
    ∷ (eqb k 4 && eqb y 0 && eqb z 0, Request x)
    ∷ (eqb k 5 && eqb z 0, Ack x y)
    ∷ (eqb k 6 && eqb y 0 && eqb z 0, Probe x Ping)
    ∷ (eqb k 6 && eqb y 1 && eqb z 0, Probe x Pong)
    ∷ (eqb k 7 && eqb x 0 && eqb y 0 && eqb z 0, Tick)
    ∷ []

abbrev pub kind_of : ℕ → ℕ → ℕ → ℕ → Option Kind
kind_of k x y z = checked Some (rows k x y z) None

-- What follows the four bytes, in numbers of eight bytes: the time; an epoch and the time; currentEpoch, configEpoch, the
-- time, and the bitmap of 2,048 bytes.
abbrev pub layout_of : Kind → Layout
layout_of (Heartbeat sender role) = Long
layout_of (Report reporter subject said) = Short
layout_of (Fail sender subject) = Short
layout_of (Request candidate) = Long
layout_of (Ack voter candidate) = Middle
layout_of (Probe subject echo) = Short
layout_of Tick = Short

abbrev pub digits_of : Layout → ℕ
digits_of Short = 24
digits_of Middle = 40
digits_of Long = 4152

abbrev pub header_of : Layout → List ℕ → Header
header_of Short line = record { time = number_at line 4 8; epoch = 0; config = 0 }
header_of Middle line = record { time = number_at line 12 8; epoch = number_at line 4 8; config = 0 }
header_of Long line = record { time = number_at line 20 8; epoch = number_at line 4 8; config = number_at line 12 8 }

-- the bitmap of kinds 1 and 4
unfoldable pub bitmap_of : List ℕ → List ℕ
bitmap_of line = bytes_at line 28 2048

-- a line of a kind has that kind's length
abbrev pub framed : List ℕ → Option Kind → Option Frame
framed line None = None
framed line (Some kind) =
    cond (eqb (length line) (digits_of (layout_of kind))) (Some (record { header = header_of (layout_of kind) line; kind = kind })) None

-- refusal 2: other characters, and what no row of the table takes
unfoldable pub frame_of : List ℕ → Option Frame
frame_of line = cond (all_digits line) (framed line (kind_of (byte_at line 0) (byte_at line 1) (byte_at line 2) (byte_at line 3))) None
