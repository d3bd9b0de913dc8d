-- Such calls among the lists of demand 3: a list in which the tables are handed on is one whose lent tables are the ones left.
use Rattle.std.specs.Prelude.{◌≡◌, List, [], ◌∷◌, ℕ}
use Rattle.node.specs.Calls.{Tables, Call}
use Rattle.safety.specs.Demand3.{Roster, Made, state_of}
use Rattle.monotone.specs.Runs.{World, after, run, fresh}

-- the calls as made on node v, each lent the tables as the last one left them
abbrev pub as_made : World → ℕ → List Call → List Made
as_made start v [] = []
as_made start v (c ∷ cs) = record { on = v; call = c; lent = (run after start cs).tables } ∷ as_made start v cs

-- they leave node v as they do one after the other, so that demand 3 holds of them too
abbrev pub RunsAreLists : Roster → (ℕ → ℕ) → ℕ → Tables → List Call → Type 0
RunsAreLists r timeouts v t cs =
    let start = fresh r v (timeouts v) t in
    state_of r timeouts (as_made start v cs) v ≡ (run after start cs).node
