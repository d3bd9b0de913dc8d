-- Lines of a text that comes in pieces: where one ends, and what is kept of the one that has not ended yet.
use Rattle.std.specs.Prelude.{ℕ, ◌+◌, ◌-◌, Bool, cond, List, ◌++◌, length, take, drop, ltb, None, Option, Some}
use Rattle.tables.specs.Lists.{first_byte, newline}

-- what stands between two places
abbrev pub between : List ℕ → ℕ → ℕ → List ℕ
between buf from end = take (end - from) (drop from buf)

-- a place of a part that starts at `from`, as a place of the whole
abbrev pub onwards : ℕ → Option ℕ → Option ℕ
onwards from None = None
onwards from (Some k) = Some (from + k)

-- the first newline between two places, if both are places of the buffer
unfoldable pub line_end : List ℕ → ℕ → ℕ → Option ℕ
line_end buf from end = cond (ltb (length buf) end) None (cond (ltb end from) None (onwards from (first_byte newline (between buf from end))))

-- a buffer, and how many bytes of it are kept; none is said of a line that is too long
pub record Kept : Type 0 where
  pub rest : Option ℕ
  pub buf : List ℕ

-- what stands between two places goes to the buffer's front
abbrev pub shifted : List ℕ → ℕ → ℕ → List ℕ
shifted buf from end = between buf from end ++ drop (end - from) buf

-- the line from `from` to `end`, kept; nothing of one that is too long, nor of one that ends past the buffer
unfoldable pub unfinished : List ℕ → ℕ → ℕ → Bool → Kept
unfinished buf from end lost =
    cond lost (record { rest = None; buf = buf })
    (cond (ltb (length buf) end) (record { rest = Some 0; buf = buf })
    (record { rest = Some (end - from); buf = shifted buf from end }))
