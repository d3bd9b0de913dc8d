-- What setting and clearing a move mark leave (01, "Redirections"), for every node, table, slot and move.
use Rattle.std.specs.Prelude.{ℕ, ◌<◌, ◌≡◌, true, List, None, Some}
use Rattle.answers.specs.declared.Answer.TheVariants.{Done}
use Rattle.state.specs.declared.Node.{Node}
use Rattle.state.specs.declared.Move.{Move}
use Rattle.state.specs.declared.Outcome.{Outcome}
use Rattle.soundness.specs.Sound.{sound}
use Rattle.marks.specs.Marks.{marking_at, ButMarks}
use Rattle.marks.specs.MarkChanges.{set_mark, clear_mark}

-- what either call keeps of a node, whatever its answer
pub record OnlyItsMark (n : Node) (slot : ℕ) (o : Outcome) : Type 0 where
  -- a refusal changes nothing
  pub refused : (o.answer ≡ Done → ⊥) → o.node ≡ n
  -- nothing but the marks changes, and of them only the slot's
  pub rest : ButMarks n o.node
  pub elsewhere : (s : ℕ) → (s ≡ slot → ⊥) → marking_at o.node s ≡ marking_at n s
  -- a sound state stays sound
  pub stays_sound : sound n ≡ true → sound o.node ≡ true

pub record Setting (n : Node) (slots : List ℕ) (slot : ℕ) (move : Move) : Type 0 where
  -- the mark is found at its slot, also where it replaces one
  pub found : (set_mark n slots slot move).answer ≡ Done → marking_at (set_mark n slots slot move).node slot ≡ Some move
  pub keeps : OnlyItsMark n slot (set_mark n slots slot move)

pub record Clearing (n : Node) (slot : ℕ) : Type 0 where
  -- no mark is found at the slot
  pub gone : (clear_mark n slot).answer ≡ Done → marking_at (clear_mark n slot).node slot ≡ None
  -- cleared room is used again: there are fewer marks
  pub room : (clear_mark n slot).answer ≡ Done → (clear_mark n slot).node.marked < n.marked
  pub keeps : OnlyItsMark n slot (clear_mark n slot)
