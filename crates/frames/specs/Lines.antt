-- The table of kinds once more, from a frame to its line: each row's bytes in order, as document 01 lists them.
-- `OneLine` says that this and `frame_of` are inverse, so no line means two frames and nothing else is a frame.
use Rattle.std.specs.Prelude.{◌≡◌, List, [], ◌∷◌, ◌++◌, ◌⊎◌, ℕ, ◌^◌, ◌<◌, length, get_or, None, Some}
use Rattle.hexdigits.specs.Hex.{hex, bytes_of}
use Rattle.state.specs.declared.Role.{Role}
use Rattle.state.specs.declared.Role.TheVariants.{Master, Replica}
use Rattle.state.specs.declared.Verdict.{Verdict}
use Rattle.state.specs.declared.Verdict.TheVariants as verdict
use Rattle.state.specs.declared.Echo.{Echo}
use Rattle.state.specs.declared.Echo.TheVariants.{Ping, Pong}
use Rattle.frames.specs.Frames.{layout_of, frame_of, bitmap_of}
use Rattle.frames.specs.declared.Header.{Header}
use Rattle.frames.specs.declared.Kind.{Kind}
use Rattle.frames.specs.declared.Kind.TheVariants.{Heartbeat, Report, Fail, Request, Ack, Probe, Tick}
use Rattle.frames.specs.declared.Layout.{Layout}
use Rattle.frames.specs.declared.Layout.TheVariants.{Short, Middle, Long}
use Rattle.frames.specs.declared.Frame.{Frame}

abbrev pub verdict_byte : Verdict → ℕ
verdict_byte verdict.Fine = 0
verdict_byte verdict.Pfail = 1
verdict_byte verdict.Fail = 2

abbrev pub echo_byte : Echo → ℕ
echo_byte Ping = 0
echo_byte Pong = 1

-- a role in two bytes; a master's followed byte is 0
abbrev pub role_bytes : Role → List ℕ
role_bytes Master = 0 ∷ 0 ∷ []
role_bytes (Replica followed) = 1 ∷ followed ∷ []

-- the first four bytes
abbrev pub kind_bytes : Kind → List ℕ
kind_bytes (Heartbeat sender role) = 1 ∷ sender ∷ role_bytes role
kind_bytes (Report reporter subject said) = 2 ∷ reporter ∷ subject ∷ verdict_byte said ∷ []
kind_bytes (Fail sender subject) = 3 ∷ sender ∷ subject ∷ 0 ∷ []
kind_bytes (Request candidate) = 4 ∷ candidate ∷ 0 ∷ 0 ∷ []
kind_bytes (Ack voter candidate) = 5 ∷ voter ∷ candidate ∷ 0 ∷ []
kind_bytes (Probe subject echo) = 6 ∷ subject ∷ echo_byte echo ∷ 0 ∷ []
kind_bytes Tick = 7 ∷ 0 ∷ 0 ∷ 0 ∷ []

-- what follows them
abbrev pub rest_bytes : Layout → Header → List ℕ → List ℕ
rest_bytes Short h bitmap = bytes_of 8 h.time
rest_bytes Middle h bitmap = bytes_of 8 h.epoch ++ bytes_of 8 h.time
rest_bytes Long h bitmap = bytes_of 8 h.epoch ++ (bytes_of 8 h.config ++ (bytes_of 8 h.time ++ bitmap))

-- the line of a frame and its bitmap
unfoldable pub encode : Frame → List ℕ → List ℕ
encode f bitmap = hex (kind_bytes f.kind ++ rest_bytes (layout_of f.kind) f.header bitmap)

-- each number fits its field, and an epoch that the kind does not carry is 0
abbrev pub Bytes : List ℕ → Type 0
Bytes bs = (k : ℕ) → get_or bs k 0 < 256

abbrev pub Number : ℕ → Type 0
Number x = x < 256 ^ 8

abbrev pub RestFits : Layout → Header → List ℕ → Type 0
RestFits Short h m = Number h.time × (h.epoch ≡ 0) × (h.config ≡ 0)
RestFits Middle h m = Number h.epoch × Number h.time × (h.config ≡ 0)
RestFits Long h m = Number h.epoch × Number h.config × Number h.time × (length m ≡ 2048) × Bytes m

abbrev pub Fits : Frame → List ℕ → Type 0
Fits f m = Bytes (kind_bytes f.kind) × RestFits (layout_of f.kind) f.header m

pub record OneLine : Type 0 where
  -- a frame's line reads as that frame, and its bitmap as that bitmap
  pub read_back : (f : Frame) (m : List ℕ) → Fits f m → frame_of (encode f m) ≡ Some f
  pub bitmap_back : (f : Frame) (m : List ℕ) → Fits f m → layout_of f.kind ≡ Long → bitmap_of (encode f m) ≡ m
  -- a line is no frame, or it is the line of its frame and its bitmap, which fit
  pub written_back : (line : List ℕ) → (frame_of line ≡ None) ⊎ ((f : Frame) × (frame_of line ≡ Some f) × Fits f (bitmap_of line) × (encode f (bitmap_of line) ≡ line))
