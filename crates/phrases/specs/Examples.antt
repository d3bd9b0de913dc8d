-- Numbers and texts as they are printed: computed.
use Rattle.std.specs.Prelude.{◌≡◌, [], ◌∷◌, map}
use Rattle.lines.specs.Texts.{ascii}
use Rattle.phrases.specs.Phrases.{grouped, filled}

-- up to the greatest number of 64 bits
abbrev pub Numbers : Type 0
Numbers =
    map grouped (0 ∷ 999 ∷ 1000 ∷ 16384 ∷ 1000000 ∷ 18446744073709551615 ∷ [])
    ≡ ascii "0" ∷ ascii "999" ∷ ascii "1,000" ∷ ascii "16,384" ∷ ascii "1,000,000" ∷ ascii "18,446,744,073,709,551,615" ∷ []

-- with a number for each %, with one too many, and with one too few
abbrev pub Texts : Type 0
Texts = map (filled (ascii "slots % to %")) ((0 ∷ 5460 ∷ []) ∷ (0 ∷ 5460 ∷ 7 ∷ []) ∷ (5460 ∷ []) ∷ [])
    ≡ ascii "slots 0 to 5,460" ∷ ascii "slots 0 to 5,460" ∷ ascii "slots 5,460 to 0" ∷ []

abbrev pub Examples : Type 0
Examples = Numbers × Texts
