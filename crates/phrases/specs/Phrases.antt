-- Numbers as people read them, and texts with such numbers in them.
use Rattle.std.specs.Prelude.{ℕ, ◌%◌, Bool, cond, List, [], ◌∷◌, ◌++◌, eqb, ltb, length, drop, get_or}
use Rattle.tables.specs.Checks.{all_of}
use Rattle.lines.specs.Texts.{decimal}

-- ---- numbers

abbrev pub comma : ℕ
comma = 0x2c

-- so many digits are whole groups of three, and at least one group
abbrev pub groups : ℕ → Bool
groups n = all_of (ltb 0 n ∷ eqb (n % 3) 0 ∷ [])

-- a digit, and a comma behind it where groups follow
abbrev pub with_comma : ℕ → ℕ → List ℕ
with_comma digit behind = cond (groups behind) (digit ∷ comma ∷ []) (digit ∷ [])

-- digits in groups of three from the end
unfoldable pub commas : List ℕ → List ℕ
commas [] = []
commas (digit ∷ digits) = with_comma digit (length digits) ++ commas digits

-- a 64-bit number in decimal, in such groups: 16383 as 16,383
unfoldable pub grouped : ℕ → List ℕ
grouped n = commas (decimal n)

-- ---- texts

abbrev pub percent : ℕ
percent = 0x25

-- what a byte of a text stands for: a % for the next number (0 where there is none), any other for itself
abbrev pub meant : ℕ → List ℕ → List ℕ
meant byte numbers = cond (eqb byte percent) (grouped (get_or numbers 0 0)) (byte ∷ [])

-- the numbers that are left for the bytes behind it
abbrev pub unread : ℕ → List ℕ → List ℕ
unread byte numbers = cond (eqb byte percent) (drop 1 numbers) numbers

-- a text with numbers in it
unfoldable pub filled : List ℕ → List ℕ → List ℕ
filled [] numbers = []
filled (byte ∷ text) numbers = meant byte numbers ++ filled text (unread byte numbers)
