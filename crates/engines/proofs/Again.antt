-- A heartbeat handed to the node again and again, one turn at a time, by any engine.
use Rattle.std.proofs.Common.{◌≡◌, ◌∙◌, ℕ, zero, suc, ◌+◌, ◌-◌, ◌≤◌, ◌<◌, List, refl, sym, ap, arith}
use Rattle.state.specs.Outcomes.{Slotted}
use Rattle.state.specs.declared.Node.{Node}
use Rattle.engines.specs.Engines.{again}

module _ (engine : Node → List ℕ → Slotted) where
  one : (left : ℕ) (s t : Slotted) → t ≡ engine s.outcome.node s.slots → again engine (suc left) s ≡ again engine left t
  unfolding again
  one left s t e = ap (again engine left) (sym e)

  pub more : (times turn : ℕ) (s t : Slotted) → turn < times → t ≡ engine s.outcome.node s.slots
      → again engine (times - turn) s ≡ again engine (times - (turn + 1)) t
  more times turn s t h e =
      ap (λ (k : ℕ). again engine k s) (let n : times - turn ≡ suc (times - (turn + 1)) = omega arith in n) ∙ one (times - (turn + 1)) s t e

  pub none : (left : ℕ) (s : Slotted) → left ≤ 0 → again engine left s ≡ s
  unfolding again
  none zero s h = refl
  none (suc n) s h = absurd (omega arith)
