-- The last line below a listing in words: how many slots each node owns, and how many nobody.
use Rattle.std.specs.Prelude.{ℕ, zero, suc, not, cond, List, [], ◌∷◌, ◌++◌, eqb, ltb}
use Rattle.tables.specs.Lists.{count_at}
use Rattle.lines.specs.Texts.{ascii}
use Rattle.phrases.specs.Phrases.{filled}

-- ---- the numbers

-- how many entries of a table are node k's
abbrev pub owned : List ℕ → ℕ → ℕ
owned slots k = count_at (λ s owner. eqb owner k) slots

-- how many are no number of the roster
abbrev pub ownerless : ℕ → List ℕ → ℕ
ownerless size slots = count_at (λ s owner. not (ltb owner size)) slots

-- ---- the words

-- what is said of no slot, of one, and of more
abbrev pub by_count : ℕ → List ℕ → List ℕ → List ℕ → List ℕ
by_count n none one more = cond (eqb n 0) none (cond (eqb n 1) one more)

-- what node k owns; not a word where that is nothing
unfoldable pub share : ℕ → ℕ → List ℕ
share k n = by_count n [] (filled (ascii "node % owns 1 slot; ") (k ∷ [])) (filled (ascii "node % owns % slots; ") (k ∷ n ∷ []))

-- what the nodes below a number own, in ascending order
unfoldable pub shares : List ℕ → ℕ → List ℕ
shares slots zero = []
shares slots (suc k) = shares slots k ++ share k (owned slots k)

-- what nobody owns
unfoldable pub remainder : ℕ → List ℕ
remainder n = by_count n (ascii "no slot is unowned\n") (ascii "1 slot is unowned\n") (filled (ascii "% slots are unowned\n") (n ∷ []))

-- the whole line
unfoldable pub totals : ℕ → List ℕ → List ℕ
totals size slots = ascii "in all: " ++ shares slots size ++ remainder (ownerless size slots)
