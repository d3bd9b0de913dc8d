-- Lines of a run's file: what stands between two places of the buffer, and the line that is found there.
use Rattle.std.specs.Prelude.{ℕ, ◌+◌, ◌-◌, ◌≡◌, Bool, true, cond, List, [], length, take, drop, ltb}
use Rattle.scraps.specs.Scraps.{Line, short, part_of, Taken, takes}
use Rattle.sources.specs.declared.Source.{Source}

-- the greatest place, and the greatest number of a line
abbrev pub top : ℕ
top = 0xffffffffffffffff

-- a place so much further on
abbrev pub further : ℕ → ℕ → ℕ
further place used = cond (ltb (top - place) used) top (place + used)

-- one line more
abbrev pub next : ℕ → ℕ
next count = cond (ltb count top) (count + 1) 0

-- what stands between two places, and nothing where they are none
abbrev pub between : List ℕ → ℕ → ℕ → List ℕ
between buf from to = cond (ltb (length buf) to) [] (cond (ltb to from) [] (take (to - from) (drop from buf)))

-- what was read of a file: the line so far, whether it has ended, where the rest of the buffer starts, and how many lines there were
pub record Reading : Type 0 where
  pub line : Line
  pub found : Bool
  pub rest : ℕ
  pub count : ℕ

abbrev pub read_as : Source → Reading
read_as s = record { line = part_of s.kept; found = s.found; rest = s.rest; count = s.count }

-- the next line begins where the last one has ended
abbrev pub so_far : Bool → Line → Line
so_far found line = cond found (short []) line

-- it is taken from the rest of the buffer as a line of a feed is from a piece
abbrev pub taken_on : Reading → Taken → Reading
taken_on s t = record { line = t.line; found = t.ended; rest = further s.rest t.used; count = cond t.ended (next s.count) s.count }

abbrev pub takes_on : Reading → List ℕ → Reading
takes_on s piece = taken_on s (takes (so_far s.found s.line) piece)

-- from what the buffer has of it
abbrev pub in_buffer : Source → List ℕ → Reading
in_buffer s buf = takes_on (read_as s) (between buf s.rest s.end)

-- what comes of that: where the line has ended, it is the next one; else more of it is read, and the line so far is kept
abbrev pub continues : Reading → Reading → Type 0
continues there r = (r.line ≡ there.line) × (there.found ≡ true → r ≡ there)

-- nothing more comes: what is kept is a line too, and where nothing is kept all lines were found
abbrev pub closes : Source → Source
closes s =
    let last = ltb 0 s.kept.length in
    record { fd = s.fd; found = cond last true s.found; kept = s.kept; rest = s.rest; end = s.end; count = cond last (next s.count) s.count; closed = true; ended = cond last s.ended true }
