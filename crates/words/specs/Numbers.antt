-- Numbers and ranges of slots, as words.
use Rattle.std.specs.Prelude.{ℕ, ◌+◌, ◌-◌, ◌*◌, Bool, cond, List, [], ◌∷◌, length, take, drop, eqb, ltb, leb, Ok, Err, Result}
use Rattle.tables.specs.Checks.{all_of}
use Rattle.words.specs.Words.{up_to}

-- the greatest number that is read; one more stands for all that are greater, and for what is no number
abbrev pub most : ℕ
most = 1_000_000_000_000_000_000

abbrev pub capped : ℕ → ℕ
capped v = cond (ltb most v) (most + 1) v

-- between two limits
abbrev pub between : ℕ → ℕ → ℕ → Bool
between low high v = all_of (leb low v ∷ leb v high ∷ [])

-- a number with a character behind it, which should be 0 to 9
abbrev pub longer : ℕ → ℕ → ℕ
longer v c = cond (between 48 57 c) (capped (v * 10 + (c - 48))) (most + 1)

unfoldable pub value_from : ℕ → List ℕ → ℕ
value_from v [] = v
value_from v (c ∷ cs) = value_from (longer v c) cs

-- what a word says
unfoldable pub value : List ℕ → ℕ
value [] = most + 1
value (c ∷ cs) = value_from 0 (c ∷ cs)

-- ---- limits, by the letter of the kind: a roster's size, a timeout, a slot or an owner, a time, and else a node's number

abbrev pub least_of : ℕ → ℕ
least_of kind = cond (eqb kind 0x7a) 1 (cond (eqb kind 0x54) 100 0)

abbrev pub most_of : ℕ → ℕ
most_of kind = cond (eqb kind 0x7a) 16 (cond (eqb kind 0x54) 600_000 (cond (eqb kind 0x6f) 65_535 (cond (eqb kind 0x74) most 255)))

-- a number of a kind, or the number that does not fit there
unfoldable pub number_of : List ℕ → ℕ → Result ℕ ℕ
number_of word kind = cond (between (least_of kind) (most_of kind) (value word)) (Ok (value word)) (Err (value word))

-- ---- ranges: a slot, or two with a dash

abbrev pub dash : ℕ
dash = 0x2d

unfoldable pub first_slot : List ℕ → ℕ
first_slot word = value (take (up_to dash word) word)

-- behind the dash, or all of a word that has none
unfoldable pub last_slot : List ℕ → ℕ
last_slot word = value (drop (cond (ltb (up_to dash word) (length word)) (up_to dash word + 1) 0) word)

unfoldable pub is_range : List ℕ → Bool
is_range word = between (first_slot word) 16383 (last_slot word)

-- ---- a report's time is kept as one more, so that 0 is none

abbrev pub kept : ℕ → ℕ
kept time = capped (time + 1)
