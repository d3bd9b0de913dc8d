-- A line that arrives in pieces: document 02, [9]. What is taken of a piece, and what is kept of a line.
use Rattle.std.specs.Prelude.{ℕ, ◌+◌, Bool, true, false, cond, List, [], ◌∷◌, ◌++◌, length, take, ltb, None, Option, Some}
use Rattle.tables.specs.Lists.{first_byte, newline}
use Rattle.scraps.specs.declared.Kept.{Kept}
use Rattle.scraps.specs.declared.Gathered.{Gathered}

-- the most characters of a line that is not too long
abbrev pub room : ℕ
room = 4200

-- ---- a line: its characters so far, or that they are too many
pub data Line : Type 0 where
  short : (characters : List ℕ) → Line
  long : Line

-- what a kept part says: one with a greater length is a line that is too long, and bytes past the length are no part of it
unfoldable pub part_of : Kept → Line
part_of k = cond (ltb room k.length) long (short (take k.length k.bytes))

-- one character more
abbrev pub longer : Line → ℕ → Line
longer long b = long
longer (short line) b = cond (ltb (length line) room) (short (line ++ (b ∷ []))) long

-- more of them
unfoldable pub grown : Line → List ℕ → Line
grown line [] = line
grown line (b ∷ bs) = grown (longer line b) bs

-- ---- a piece

-- the line with what was taken of the piece, how many bytes that was, and whether the line has ended
pub record Taken : Type 0 where
  pub line : Line
  pub used : ℕ
  pub ended : Bool

-- by where the first newline stands: all bytes up to it, and it is used and no part of the line; or the whole piece
abbrev pub up_to : Line → List ℕ → Option ℕ → Taken
up_to line piece None = record { line = grown line piece; used = length piece; ended = false }
up_to line piece (Some k) = record { line = grown line (take k piece); used = k + 1; ended = true }

unfoldable pub takes : Line → List ℕ → Taken
takes line piece = up_to line piece (first_byte newline piece)

-- what the function gives back, in these words
abbrev pub taken_as : Gathered → Taken
taken_as r = record { line = part_of r.kept; used = r.used; ended = r.ended }
