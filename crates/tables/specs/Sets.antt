-- Sets of node numbers, as any number of words of 64 bits: v is bit v mod 64 of word v / 64, least first.
use Rattle.std.specs.Prelude.{ℕ, zero, suc, ◌+◌, ◌-◌, ◌*◌, ◌/◌, ◌%◌, ◌^◌, min, ◌<◌, ◌≡◌, Bool, true, false, cond, ◌||◌, List, [], ◌∷◌, eqb, ltb, get_or, set}
use Rattle.std.specs.Int.Count.{ones}
use Rattle.std.specs.Int.Bits.{bit_and, bit_or}

-- is bit k set in a word
abbrev pub bit : ℕ → ℕ → Bool
bit w k = eqb (w / 2 ^ k % 2) 1

-- is v in the set
abbrev pub has : List ℕ → ℕ → Bool
has ws v = bit (get_or ws (v / 64) 0) (v % 64)

-- the set with v
abbrev pub add : List ℕ → ℕ → List ℕ
add ws v = set ws (v / 64) (bit_or (get_or ws (v / 64) 0) (2 ^ (v % 64)))

-- how many are in the set: its count of ones
abbrev pub size : List ℕ → ℕ
size [] = 0
size (w ∷ ws) = ones w + size ws

-- every word fits 64 bits
abbrev pub AllFit : List ℕ → Type 0
AllFit [] = Unit {0}
AllFit (w ∷ ws) = (w < 2 ^ 64) × AllFit ws

-- more than half of a set are heard, by their counts of ones
abbrev pub majority : List ℕ → List ℕ → Bool
majority voters heard = ltb (size voters) (2 * size heard)

-- every member of one set is a member of another of as many words
abbrev pub within : List ℕ → List ℕ → Bool
within [] whole = true
within (w ∷ ws) [] = false
within (w ∷ ws) (v ∷ vs) = cond (eqb (bit_and w v) w) (within ws vs) false

-- the members of both of two sets of as many words
abbrev pub both : List ℕ → List ℕ → List ℕ
both [] vs = []
both (w ∷ ws) [] = []
both (w ∷ ws) (v ∷ vs) = bit_and w v ∷ both ws vs

-- no number from n on is in the set, and each word fits 64 bits
abbrev pub below : List ℕ → ℕ → Bool
below [] n = true
below (w ∷ ws) n = cond (ltb w (2 ^ min n 64)) (below ws (n - 64)) false

-- the set, of so many words, of the numbers that pass a test
unfoldable pub word_of : (ℕ → Bool) → ℕ → ℕ → ℕ
word_of p from zero = 0
word_of p from (suc n) = cond (p (from + n)) (bit_or (word_of p from n) (2 ^ n)) (word_of p from n)

unfoldable pub words_from : (ℕ → Bool) → ℕ → ℕ → List ℕ
words_from p from zero = []
words_from p from (suc n) = word_of p from 64 ∷ words_from p (from + 64) n

-- ---- a claim's bitmap: slot s is bit s mod 8, least first, of byte s / 8 (01, "Frames")
abbrev pub claimed : List ℕ → ℕ → Bool
claimed bitmap s = bit (get_or bitmap (s / 8) 0) (s % 8)

-- least first: the bytes 01 and 80 (hexadecimal) claim the first slot of the one and the last of the other, 0 and 15, and no more
abbrev pub LeastFirst : ℕ → Type 0
LeastFirst s = claimed (0x01 ∷ 0x80 ∷ []) s ≡ (eqb s 0 || eqb s 15)
