-- A line handed to the node again and again, one turn at a time.
use Rattle.std.proofs.Common.{◌≡◌, ◌∙◌, ℕ, zero, suc, ◌+◌, ◌-◌, ◌≤◌, ◌<◌, List, refl, sym, ap, arith}
use Rattle.state.specs.Outcomes.{Stepped}
use Rattle.exports.specs.Steps.{once_more, again}

module _ (line : List ℕ) where
  one : (left : ℕ) (s t : Stepped) → t ≡ once_more line s → again (suc left) line s ≡ again left line t
  unfolding again
  one left s t e = ap (again left line) (sym e)

  pub more : (times turn : ℕ) (s t : Stepped) → turn < times → t ≡ once_more line s → again (times - turn) line s ≡ again (times - (turn + 1)) line t
  more times turn s t h e =
      ap (λ (k : ℕ). again k line s) (let n : times - turn ≡ suc (times - (turn + 1)) = omega arith in n) ∙ one (times - (turn + 1)) s t e

  pub none : (left : ℕ) (s : Stepped) → left ≤ 0 → again left line s ≡ s
  unfolding again
  none zero s h = refl
  none (suc n) s h = absurd (omega arith)
