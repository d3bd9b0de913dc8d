-- What a call leaves: its answer, the node, and each table that was lent to be written.
use Rattle.std.specs.Prelude.{ℕ, List}
use Rattle.answers.specs.declared.Answer.{Answer}
use Rattle.state.specs.declared.Node.{Node}
use Rattle.state.specs.declared.Outcome.{Outcome}

abbrev pub answered : Node → Answer → Outcome
answered n a = record { answer = a; node = n }

-- the slot table was lent
pub record Slotted : Type 0 where
  pub outcome : Outcome
  pub slots : List ℕ

-- the report times were lent
pub record Reported : Type 0 where
  pub node : Node
  pub reports : List ℕ

-- both were lent
pub record Stepped : Type 0 where
  pub outcome : Outcome
  pub slots : List ℕ
  pub reports : List ℕ
