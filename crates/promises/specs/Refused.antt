-- Demand 1, its first half: an answer that turns a call away leaves everything as it was handed in.
use Rattle.std.specs.Prelude.{◌≡◌, List, ℕ, T}
use Rattle.answers.specs.declared.Answer.TheVariants.{Done}
use Rattle.state.specs.Outcomes.{Stepped}
use Rattle.state.specs.declared.Node.{Node}
use Rattle.state.specs.declared.Move.{Move}
use Rattle.marks.specs.MarkChanges.{set_mark, clear_mark}
use Rattle.refusals.specs.Refusals.{turns_away}
use Rattle.openings.specs.Openings.{opens}
use Rattle.node.specs.Step.{on_frame}

-- the node and both tables are what was handed in
pub record Unchanged (n : Node) (slots reports : List ℕ) (s : Stepped) : Type 0 where
  pub node : s.outcome.node ≡ n
  pub slots_kept : s.slots ≡ slots
  pub reports_kept : s.reports ≡ reports

-- for every node, tables and arguments; 1 to 8 turn a line and an opening away, and a mark's refusal is any answer but 0
pub record TurnedAwayChangesNothing (n : Node) : Type 0 where
  pub line : (slots reports line : List ℕ) → T (turns_away (on_frame n slots reports line).outcome.answer) → Unchanged n slots reports (on_frame n slots reports line)
  pub opening : (slots : List ℕ) (time : ℕ) → T (turns_away (opens n slots time).answer) → (opens n slots time).node ≡ n
  pub setting : (slots : List ℕ) (slot : ℕ) (move : Move) → ((set_mark n slots slot move).answer ≡ Done → ⊥) → (set_mark n slots slot move).node ≡ n
  pub clearing : (slot : ℕ) → ((clear_mark n slot).answer ≡ Done → ⊥) → (clear_mark n slot).node ≡ n
