-- What a line of the program's input is answered.
use Rattle.std.specs.Prelude.{ℕ, ◌+◌, ◌-◌, ◌*◌, ◌≤◌, cond, List, [], ◌∷◌, ◌++◌, length, take, ltb, leb, None, Option, Some}
use Rattle.slots.specs.Key.{key_slot}

-- the value of a lowercase hexadecimal digit, 16 for any other byte
unfoldable pub digit_of : ℕ → ℕ
digit_of c = cond (ltb c 0x30) 16 (cond (leb c 0x39) (c - 0x30) (cond (ltb c 0x61) 16 (cond (leb c 0x66) (c - 0x61 + 10) 16)))

-- a key, or none
pub data Line : Type 0 where
  key : List ℕ → Line
  bad : Line

-- more bytes in front of what a line spells
abbrev pub onto : List ℕ → Line → Line
onto bytes (key k) = key (bytes ++ k)
onto bytes bad = bad

-- what a line spells, two digits a byte
unfoldable pub read : List ℕ → Line
read [] = key []
read (x ∷ []) = bad
read (x ∷ y ∷ rest) =
    cond (ltb 15 (digit_of x)) bad (cond (ltb 15 (digit_of y)) bad (onto ((digit_of x * 16 + digit_of y) ∷ []) (read rest)))

-- the same, as the code leaves it in the line's place
abbrev pub left : Option ℕ → List ℕ → Line
left (Some n) bytes = key (take n bytes)
left None bytes = bad

abbrev pub Within : Option ℕ → List ℕ → Type 0
Within (Some n) bytes = n ≤ length bytes
Within None bytes = Unit {0}

-- the line's answer
abbrev pub reply_of : Line → Option ℕ
reply_of (key k) = Some (key_slot k)
reply_of bad = None
