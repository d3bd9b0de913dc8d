-- The winning step as it was before document 02, [14].
use Rattle.std.specs.Prelude.{ℕ, cond, List, eqb}
use Rattle.tables.specs.Lists.{map_at}
use Rattle.answers.specs.Answers.{number}
use Rattle.state.specs.Node.{role_at}
use Rattle.state.specs.declared.Role.{Role}
use Rattle.state.specs.declared.Role.TheVariants.{Master, Replica}
use Rattle.node.specs.Calls.{outcome}
use Rattle.monotone.specs.Runs.{World, Step, after}

-- every slot that the old master owned passes, whatever its known configEpoch
abbrev pub all_passed : Role → ℕ → List ℕ → List ℕ
all_passed Master me slots = slots
all_passed (Replica old) me slots = map_at (λ s owner. cond (eqb owner old) me owner) slots

abbrev pub with_slots : List ℕ → World → World
with_slots slots w = record { node = w.node; tables = record { slots = slots; reports = w.tables.reports } }

-- what a call left: as today, but for one that is answered 30
abbrev pub before14 : Step
before14 w c =
    let n = w.node in
    let passed = all_passed (role_at n n.me) n.me w.tables.slots in
    cond (eqb (number (outcome n w.tables c).answer) 30) (with_slots passed (after w c)) (after w c)
