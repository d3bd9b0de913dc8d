-- The move marks as a list: reading them, the changes that setting and clearing make, and whose a slot is (01, "Redirections").
use Rattle.std.specs.Prelude.{ℕ, zero, suc, ◌≡◌, Bool, true, false, cond, List, [], ◌∷◌, ◌++◌, length, take, drop, get_or, eqb, ltb, None, Option, Some}
use Rattle.state.specs.Changes.{with_marks}
use Rattle.state.specs.declared.Node.{Node}
use Rattle.state.specs.declared.Move.{Move}
use Rattle.state.specs.declared.Mark.{Mark}

-- the marks that are part of the state
abbrev pub marks_of : Node → List Mark
marks_of n = take n.marked n.marks

-- how a slot is marked
unfoldable pub marking_of : ℕ → List Mark → Option Move
marking_of s [] = None
marking_of s (m ∷ ms) = cond (eqb m.slot s) (Some m.movement) (marking_of s ms)

abbrev pub marking_at : Node → ℕ → Option Move
marking_at n s = marking_of s (marks_of n)

abbrev pub is_unmarked : Option Move → Bool
is_unmarked None = true
is_unmarked (Some m) = false

-- the marks of other slots
unfoldable pub others : ℕ → List Mark → List Mark
others s [] = []
others s (m ∷ ms) = cond (eqb m.slot s) (others s ms) (m ∷ others s ms)

-- a mark before the first of a greater slot
unfoldable pub insert : Mark → List Mark → List Mark
insert m [] = m ∷ []
insert m (x ∷ xs) = cond (ltb m.slot x.slot) (m ∷ x ∷ xs) (x ∷ insert m xs)

-- that place
unfoldable pub place_of : ℕ → List Mark → ℕ
place_of s [] = zero
place_of s (x ∷ xs) = cond (ltb s x.slot) zero (suc (place_of s xs))

-- the node with these marks and nothing else changed; the array's places after them, no part of the state, are as before
abbrev pub remarked : Node → List Mark → Node
remarked n ms = with_marks (ms ++ drop (length ms) n.marks) (length ms) n

-- nothing but the marks is changed from the first node to the second
abbrev pub ButMarks : Node → Node → Type 0
ButMarks a b = b ≡ with_marks b.marks b.marked a

-- ---- whose slot it is

-- a slot's entry
abbrev pub owner_at : List ℕ → ℕ → ℕ
owner_at slots s = get_or slots s 0

-- this node owns the slot
abbrev pub is_own : Node → List ℕ → ℕ → Bool
is_own n slots s = eqb (owner_at slots s) n.me
