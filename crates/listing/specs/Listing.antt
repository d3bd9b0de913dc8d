-- The ranges of a slot table (document 02, [1]), and the list that they are written to.
use Rattle.std.specs.Prelude.{ℕ, suc, ◌*◌, Bool, not, cond, List, [], ◌∷◌, ◌++◌, eqb, ltb, length, drop}
use Rattle.tables.specs.Sizes.{slot_count}
use Rattle.tables.specs.Checks.{checked, all_of}
use Rattle.answers.specs.declared.Answer.{Answer}
use Rattle.answers.specs.declared.Answer.TheVariants.{WrongLength, Listed, ListShort}

-- ---- the ranges

pub record Range : Type 0 where
  pub first : ℕ
  pub last : ℕ
  pub owner : ℕ

-- from a first slot to a last one, with their owner
abbrev pub range : ℕ → ℕ → ℕ → Range
range first last owner = record { first = first; last = last; owner = owner }

-- the range goes on where slot s leaves off, with the same owner
abbrev pub continues : ℕ → ℕ → Range → Bool
continues s owner r = all_of (eqb r.first (suc s) ∷ eqb r.owner owner ∷ [])

-- slot s and its owner, put in front of the ranges of the slots behind it: into the first of them if that goes on, else as a
-- range of its own
unfoldable pub joined : ℕ → ℕ → List Range → List Range
joined s owner [] = range s s owner ∷ []
joined s owner (r ∷ rs) = cond (continues s owner r) (range s r.last owner ∷ rs) (range s s owner ∷ r ∷ rs)

-- the ranges of the entries from slot s on; an entry that is no number of the roster stands in none
unfoldable pub ranges_from : (size s : ℕ) → List ℕ → List Range
ranges_from size s [] = []
ranges_from size s (owner ∷ entries) =
    cond (ltb owner size) (joined s owner (ranges_from size (suc s) entries)) (ranges_from size (suc s) entries)

-- the ranges of a whole table, by the roster's size
abbrev pub listing : ℕ → List ℕ → List Range
listing size slots = ranges_from size 0 slots

-- ---- the list

-- three numbers a range: first slot, last slot, owner
unfoldable pub flat : List Range → List ℕ
flat [] = []
flat (r ∷ rs) = r.first ∷ r.last ∷ r.owner ∷ flat rs

-- the ranges written to a list; numbers past the last range stay
abbrev pub laid : List Range → List ℕ → List ℕ
laid rs list = flat rs ++ drop (3 * length rs) list

-- the list is too short for three numbers a range
abbrev pub is_short : List Range → List ℕ → Bool
is_short rs list = ltb (length list) (3 * length rs)

-- what a listing leaves: its answer and the list
pub record ListAfter : Type 0 where
  pub answer : Answer
  pub list : List ℕ

-- a refusal writes nothing
abbrev pub refused : List ℕ → Answer → ListAfter
refused list a = record { answer = a; list = list }

-- ranges entered in a list: 40 with the number of ranges needed; else 0 with their number
unfoldable pub entered : List Range → List ℕ → ListAfter
entered rs list = checked (refused list) ((is_short rs list, ListShort (length rs)) ∷ []) (record { answer = Listed (length rs); list = laid rs list })

-- 1, then 40; else 0
unfoldable pub lists : ℕ → List ℕ → List ℕ → ListAfter
lists size slots list = checked (refused list) ((not (eqb (length slots) slot_count), WrongLength) ∷ []) (entered (listing size slots) list)
