-- Setting and clearing a move mark (01, "Redirections"): the checks in order, and what is left when none applies.
use Rattle.std.specs.Prelude.{ℕ, Bool, true, not, List, [], ◌∷◌, ◌++◌, length, eqb, leb}
use Rattle.tables.specs.Sizes.{slot_count, mark_room}
use Rattle.tables.specs.Checks.{checked}
use Rattle.answers.specs.declared.Answer.{Answer}
use Rattle.answers.specs.declared.Answer.TheVariants.{Done, NoSuchSlot, UnknownNode, OwnNumber, WrongSide, MarksFull, NotMarked}
use Rattle.state.specs.Node.{listed, peer_of}
use Rattle.state.specs.Outcomes.{answered}
use Rattle.state.specs.declared.Node.{Node}
use Rattle.state.specs.declared.Move.{Move}
use Rattle.state.specs.declared.Move.TheVariants.{Migrating, Importing}
use Rattle.state.specs.declared.Outcome.{Outcome}
use Rattle.entry.specs.Entry.{entry_checks}
use Rattle.marks.specs.Marks.{marks_of, marking_at, is_unmarked, others, insert, remarked, is_own}

-- ---- setting

-- 23: migrating without owning the slot, or importing while owning it
abbrev pub wrong_side : Bool → Move → Bool
wrong_side owned (Migrating peer) = not owned
wrong_side owned (Importing peer) = owned

-- 21, 3, 6, 23, 20
abbrev pub mark_checks : Node → List ℕ → ℕ → Move → List (Bool × Answer)
mark_checks n slots s move =
    (leb slot_count s, NoSuchSlot)
    ∷ (not (listed n (peer_of move)), UnknownNode)
    ∷ (eqb (peer_of move) n.me, OwnNumber)
    ∷ (wrong_side (is_own n slots s) move, WrongSide)
    ∷ (leb mark_room (length (others s (marks_of n))), MarksFull)
    ∷ []

-- 1 and 7 before them
abbrev pub set_checks : Node → List ℕ → ℕ → Move → List (Bool × Answer)
set_checks n slots s move = entry_checks (eqb (length slots) slot_count) n ++ mark_checks n slots s move

-- the mark takes the place of an older one on its slot
abbrev pub marking : ℕ → Move → Node → Node
marking s move n = remarked n (insert (record { slot = s; movement = move }) (others s (marks_of n)))

unfoldable pub set_mark : Node → List ℕ → ℕ → Move → Outcome
set_mark n slots s move = checked (answered n) (set_checks n slots s move) (answered (marking s move n) Done)

-- ---- clearing

-- 21, 22
abbrev pub unmark_checks : Node → ℕ → List (Bool × Answer)
unmark_checks n s = (leb slot_count s, NoSuchSlot) ∷ (is_unmarked (marking_at n s), NotMarked) ∷ []

-- 7 before them: no table is lent, so none has a wrong length
abbrev pub clear_checks : Node → ℕ → List (Bool × Answer)
clear_checks n s = entry_checks true n ++ unmark_checks n s

abbrev pub unmarking : ℕ → Node → Node
unmarking s n = remarked n (others s (marks_of n))

unfoldable pub clear_mark : Node → ℕ → Outcome
clear_mark n s = checked (answered n) (clear_checks n s) (answered (unmarking s n) Done)
