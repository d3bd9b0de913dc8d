-- An election won: document 01, "Election", answer 30, with document 02, [14].
use Rattle.std.specs.Prelude.{ℕ, Bool, false, cond, ◌&&◌, List, eqb, ltb, None}
use Rattle.tables.specs.Lists.{map_at, count_at}
use Rattle.answers.specs.declared.Answer.TheVariants.{Won}
use Rattle.state.specs.Node.{record_at, role_at, followed}
use Rattle.state.specs.Changes.{with_role, with_config, with_election, on_record}
use Rattle.state.specs.Outcomes.{answered, Slotted}
use Rattle.state.specs.declared.Node.{Node}
use Rattle.state.specs.declared.Record.{Record}
use Rattle.state.specs.declared.Role.{Role}
use Rattle.state.specs.declared.Role.TheVariants.{Master, Replica}

-- does a slot pass, by its owner: the old master's do, if its known configEpoch is below the election's epoch; a node that
-- follows none has no old master
abbrev pub passes : Role → ℕ → ℕ → ℕ → Bool
passes Master config epoch owner = false
passes (Replica old) config epoch owner = ltb config epoch && eqb owner old

-- does an owner yield its slots to this node, if it wins an election of that epoch
abbrev pub yields : Node → ℕ → ℕ → Bool
yields n epoch owner =
    let role = role_at n n.me in
    passes role (record_at n (followed role)).config epoch owner

-- how many slots passed, and the table afterwards
pub record Passing : Type 0 where
  pub count : ℕ
  pub slots : List ℕ

-- every slot whose owner is such goes to a new one
abbrev pub handed_over : (ℕ → Bool) → ℕ → List ℕ → Passing
handed_over such new slots = record { count = count_at (λ s owner. such owner) slots; slots = map_at (λ s owner. cond (such owner) new owner) slots }

-- what passes to this node
abbrev pub passing : Node → List ℕ → ℕ → Passing
passing n slots epoch = handed_over (yields n epoch) n.me slots

-- a master with the election's epoch as its configEpoch, and the election is closed
abbrev pub winner : ℕ → Record → Record
winner epoch r = with_config epoch (with_role Master r)

unfoldable pub promoted : ℕ → Node → Node
promoted epoch n = with_election None (on_record n.me (winner epoch) n)

-- 30, whether any slot passes or none does
abbrev pub won : Node → List ℕ → ℕ → Slotted
won n slots epoch =
    let p = passing n slots epoch in
    record { outcome = answered (promoted epoch n) (Won p.count); slots = p.slots }
