-- A writer: a lent buffer with a text at its front.
use Rattle.std.specs.Prelude.{ℕ, ◌≡◌, List, length}
use Rattle.lines.specs.declared.Writer.{Writer}
use Rattle.lines.specs.Texts.{Text, puts}

abbrev pub text_of : Writer → Text
text_of w = record { bytes = w.bytes.now; end = w.end }

-- the same buffer, with more bytes behind its text
abbrev pub extended : Writer → List ℕ → Writer
extended w l = let t = puts (text_of w) l in record w { bytes = record w.bytes { now = t.bytes }; end = t.end }

-- a lent buffer keeps its length, whatever is written to it
abbrev pub SameRoom : Writer → Writer → Type 0
SameRoom was is = length is.bytes.now ≡ length was.bytes.now
