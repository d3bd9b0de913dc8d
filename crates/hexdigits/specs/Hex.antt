-- Lowercase hexadecimal: digits, and the bytes and numbers of a line of them, read and written. Past a line's end its
-- characters read as 0.
use Rattle.std.specs.Prelude.{◌≡◌, ℕ, zero, suc, ◌+◌, ◌*◌, ◌-◌, ◌/◌, ◌%◌, ◌≤◌, Bool, true, cond, ◌&&◌, ◌||◌, List, [], ◌∷◌, ◌++◌, length, take, drop, get_or, ltb, leb}

-- ---- read

-- 0 to 9; a to f
abbrev pub decimal : ℕ → Bool
decimal c = leb 48 c && leb c 57

abbrev pub letter : ℕ → Bool
letter c = leb 97 c && leb c 102

unfoldable pub is_digit : ℕ → Bool
is_digit c = decimal c || letter c

-- the value of a digit, 0 for any other character
unfoldable pub digit : ℕ → ℕ
digit c = cond (decimal c) (c - 48) (cond (letter c) (c - 87) 0)

unfoldable pub all_digits : List ℕ → Bool
all_digits [] = true
all_digits (c ∷ cs) = is_digit c && all_digits cs

-- the byte at place i, two digits
unfoldable pub byte_at : List ℕ → ℕ → ℕ
byte_at line i = digit (get_or line (2 * i) 0) * 16 + digit (get_or line (2 * i + 1) 0)

-- the big endian number of the n bytes from place i on
unfoldable pub number_at : List ℕ → ℕ → ℕ → ℕ
number_at line i zero = 0
number_at line i (suc n) = number_at line i n * 256 + byte_at line (i + n)

-- the n bytes from place i on
unfoldable pub bytes_at : List ℕ → ℕ → ℕ → List ℕ
bytes_at line i zero = []
bytes_at line i (suc n) = byte_at line i ∷ bytes_at line (suc i) n

-- ---- written

-- the digit of a value below 16, and the two digits of each byte
unfoldable pub character : ℕ → ℕ
character v = cond (ltb v 10) (v + 48) (v + 87)

unfoldable pub hex : List ℕ → List ℕ
hex [] = []
hex (b ∷ bs) = character (b / 16) ∷ character (b % 16) ∷ hex bs

-- a number in n bytes, big endian
unfoldable pub bytes_of : ℕ → ℕ → List ℕ
bytes_of zero x = []
bytes_of (suc n) x = bytes_of n (x / 256) ++ (x % 256 ∷ [])

-- a text written over a buffer from place i on: what stands before and behind it stays, and what has no room is left out
unfoldable pub over : List ℕ → ℕ → List ℕ → List ℕ
over [] i text = []
over (b ∷ bs) zero [] = b ∷ bs
over (b ∷ bs) zero (c ∷ cs) = c ∷ over bs zero cs
over (b ∷ bs) (suc i) text = b ∷ over bs i text

-- where there is room: what stood before the text, the text, and what stood behind it
abbrev pub OverFits : List ℕ → ℕ → List ℕ → Type 0
OverFits out i text = i + length text ≤ length out → over out i text ≡ take i out ++ (text ++ drop (i + length text) out)
