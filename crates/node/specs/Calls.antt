-- The calls that give back a node's state, and what each makes of a node and the tables lent: document 01, "The lists of
-- demand 3".
use Rattle.std.specs.Prelude.{ℕ, List}
use Rattle.state.specs.Outcomes.{Stepped}
use Rattle.state.specs.declared.Node.{Node}
use Rattle.state.specs.declared.Outcome.{Outcome}
use Rattle.state.specs.declared.Move.{Move}
use Rattle.marks.specs.MarkChanges.{set_mark, clear_mark}
use Rattle.openings.specs.Openings.{opens}
use Rattle.kinds.specs.Kinds.{keeping}
use Rattle.node.specs.Step.{on_frame}

-- the two tables
pub record Tables : Type 0 where
  pub slots : List ℕ
  pub reports : List ℕ

-- a call's arguments other than the state and the tables
pub data Call : Type 0 where
  frame : (line : List ℕ) → Call
  opening : (time : ℕ) → Call
  setting : (slot : ℕ) (move : Move) → Call
  clearing : (slot : ℕ) → Call

-- what the promises of the functions say that it answers, and the state and the tables that it leaves; a table that it is
-- lent only to read, or not at all, stays
abbrev pub called : Node → Tables → Call → Stepped
called n t (frame line) = on_frame n t.slots t.reports line
called n t (opening time) = keeping t.slots t.reports (opens n t.slots time)
called n t (setting slot move) = keeping t.slots t.reports (set_mark n t.slots slot move)
called n t (clearing slot) = keeping t.slots t.reports (clear_mark n slot)

-- its answer and state, and the tables after it
abbrev pub outcome : Node → Tables → Call → Outcome
outcome n t c = (called n t c).outcome

abbrev pub tables_after : Node → Tables → Call → Tables
tables_after n t c = let s = called n t c in record { slots = s.slots; reports = s.reports }
