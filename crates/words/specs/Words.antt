-- The words of a line: docs/REPLAY.md, "What a file says".
use Rattle.std.specs.Prelude.{ℕ, Bool, true, false, cond, List, [], ◌∷◌, length, take, eqb, None, Option, Some}
use Rattle.tables.specs.Lists.{first_byte}

abbrev pub place_or : Option ℕ → ℕ → ℕ
place_or None n = n
place_or (Some k) n = k

-- where a byte first stands, or the text's end
unfoldable pub up_to : ℕ → List ℕ → ℕ
up_to byte text = place_or (first_byte byte text) (length text)

-- # begins a comment
abbrev pub hash : ℕ
hash = 0x23

-- what a line says without its comment
abbrev pub said : List ℕ → List ℕ
said line = take (up_to hash line) line

-- two words are the same
unfoldable pub same : List ℕ → List ℕ → Bool
same [] [] = true
same [] (d ∷ ds) = false
same (c ∷ cs) [] = false
same (c ∷ cs) (d ∷ ds) = cond (eqb c d) (same cs ds) false
