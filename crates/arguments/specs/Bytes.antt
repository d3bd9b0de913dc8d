-- The bytes that a line hands on: the bitmap that its ranges claim, a key, and a piece of a feed.
use Rattle.std.specs.Prelude.{ℕ, zero, suc, ◌+◌, ◌-◌, ◌*◌, ◌/◌, ◌%◌, cond, List, [], ◌∷◌, ◌++◌, map, length, get_or, eqb}
use Rattle.tables.specs.Lists.{map_at, newline}
use Rattle.hexdigits.specs.Hex.{bytes_at}
use Rattle.words.specs.Numbers.{between}

-- a value for every entry of a table from one place to another
abbrev pub chosen : ℕ → ℕ → ℕ → ℕ → ℕ → ℕ
chosen first last x s old = cond (between first last s) x old

unfoldable pub given : ℕ → ℕ → ℕ → List ℕ → List ℕ
given first last x table = map_at (chosen first last x) table

-- slot s is bit s mod 8, least first, of byte s / 8, and a byte is two digits, its high bits first
abbrev pub bit : List ℕ → ℕ → ℕ
bit table s = get_or table s 0 % 2

abbrev pub nibble : List ℕ → ℕ → ℕ
nibble table s = bit table s + bit table (s + 1) * 2 + bit table (s + 2) * 4 + bit table (s + 3) * 8

-- 0 to 9, then a to f
abbrev pub hex_digit : ℕ → ℕ
hex_digit v = v + 48 + v / 10 * 39

unfoldable pub digit_of : List ℕ → ℕ → ℕ
digit_of table j = hex_digit (nibble table (8 * (j / 2) + 4 * (1 - j % 2)))

unfoldable pub digits_below : List ℕ → ℕ → List ℕ
digits_below table zero = []
digits_below table (suc j) = digits_below table j ++ (digit_of table j ∷ [])

-- a key that is given in hexadecimal
unfoldable pub key_bytes : List ℕ → List ℕ
key_bytes digits = bytes_at digits 0 (length digits / 2)

-- a piece of a feed: the characters as they stand, and a newline for each slash
abbrev pub slash : ℕ
slash = 0x2f

abbrev pub handed : ℕ → ℕ
handed b = cond (eqb b slash) newline b

unfoldable pub piece_bytes : List ℕ → List ℕ
piece_bytes word = map handed word
