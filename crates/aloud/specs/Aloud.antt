-- A listing (document 02, [1]) in words, as somebody reads it out on the phone.
use Rattle.std.specs.Prelude.{ℕ, suc, ◌-◌, ◌≡◌, cond, List, [], ◌∷◌, ◌++◌, eqb, ltb}
use Rattle.tables.specs.Sizes.{slot_count}
use Rattle.lines.specs.Texts.{ascii}
use Rattle.phrases.specs.Phrases.{filled}
use Rattle.listing.specs.Listing.{Range, range, flat}

-- ---- a line

-- how many slots there are from a first to a last one; none if the last comes before the first
abbrev pub span : ℕ → ℕ → ℕ
span first last = suc last - first

-- the line of a range: whose its slots are
unfoldable pub owned_line : Range → List ℕ
owned_line r =
    cond (eqb r.first r.last)
    (filled (ascii "slot %, that is 1 slot, belongs to node %\n") (r.first ∷ r.owner ∷ []))
    (filled (ascii "slots % to %, that is % slots, belong to node %\n") (r.first ∷ r.last ∷ span r.first r.last ∷ r.owner ∷ []))

-- the line of slots that nobody owns
unfoldable pub unowned_line : ℕ → ℕ → List ℕ
unowned_line first last =
    cond (eqb first last)
    (filled (ascii "slot %, that is 1 slot, is unowned\n") (first ∷ []))
    (filled (ascii "slots % to %, that is % slots, are unowned\n") (first ∷ last ∷ span first last ∷ []))

-- ---- the lines of a listing, each with a margin in front

-- the slots from one up to the next that is owned: a line if there are any
unfoldable pub gap : List ℕ → ℕ → ℕ → List ℕ
gap margin from next = cond (ltb from next) (margin ++ unowned_line from (next - 1)) []

-- what is left to say from slot `next` on, where these ranges are left
unfoldable pub spoken_from : List ℕ → ℕ → List Range → List ℕ
spoken_from margin next [] = gap margin next slot_count
spoken_from margin next (r ∷ rs) = gap margin next r.first ++ margin ++ owned_line r ++ spoken_from margin (suc r.last) rs

abbrev pub spoken : List ℕ → List Range → List ℕ
spoken margin rs = spoken_from margin 0 rs

-- ---- the list that the ranges were written to

-- three numbers a range; one or two that are left over say nothing
unfoldable pub ranges_of : List ℕ → List Range
ranges_of [] = []
ranges_of (first ∷ []) = []
ranges_of (first ∷ last ∷ []) = []
ranges_of (first ∷ last ∷ owner ∷ list) = range first last owner ∷ ranges_of list

-- what was written reads back
abbrev pub ReadsBack : List Range → Type 0
ReadsBack rs = ranges_of (flat rs) ≡ rs
