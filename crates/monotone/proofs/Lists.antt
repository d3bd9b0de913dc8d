-- The calls as a list of demand 3.
use mathlib.Core.Path.{refl}
use mathlib.Core.List.{List, [], ◌∷◌}
use Prim.Native.Nat.{ℕ}
use borrow.Author.Tests.{eq-eqb}
use Rattle.node.specs.Calls.{Tables, Call}
use Rattle.safety.specs.Demand3.{Roster}
use Rattle.monotone.specs.Lists.{RunsAreLists}

pub runs_are_lists : (r : Roster) (timeouts : ℕ → ℕ) (v : ℕ) (t : Tables) (cs : List Call) → RunsAreLists r timeouts v t cs
runs_are_lists r timeouts v t [] = refl
runs_are_lists r timeouts v t (c ∷ cs) = rw (eq-eqb v v refl, runs_are_lists r timeouts v t cs)
