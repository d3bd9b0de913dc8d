-- A text at the front of a buffer, and what is written behind it.
use Rattle.std.specs.Prelude.{ℕ, zero, suc, ◌+◌, ◌/◌, cond, List, [], ◌∷◌, length, set, ltb}
use Prim.Native.Char.{code}
use Prim.Native.String.{String, [] as done, ◌∷◌ as ◌then◌}
use Rattle.io.specs.Digits.{last_digits}

-- the buffer, and how many of its bytes are the text
pub record Text : Type 0 where
  pub bytes : List ℕ
  pub end : ℕ

-- a byte more; a full buffer stays as it is
abbrev pub put : Text → ℕ → Text
put t b = record { bytes = set t.bytes t.end b; end = cond (ltb t.end (length t.bytes)) (t.end + 1) t.end }

-- more bytes, one after the other
unfoldable pub puts : Text → List ℕ → Text
puts t [] = t
puts t (b ∷ bs) = puts (put t b) bs

-- a text's characters, each as its code
unfoldable pub ascii : String → List ℕ
ascii done = []
ascii (c then text) = code c ∷ ascii text

-- how many decimal digits a number has, at most 1 + limit
unfoldable pub width : ℕ → ℕ → ℕ
width zero n = 1
width (suc limit) n = cond (ltb n 10) 1 (suc (width limit (n / 10)))

-- a 64-bit number in decimal, as ASCII
unfoldable pub decimal : ℕ → List ℕ
decimal n = last_digits 10 (width 19 n) n

-- what waits of a text that is written when it has come to a length
abbrev pub drained : ℕ → ℕ → ℕ
drained most at = cond (ltb at most) at 0
