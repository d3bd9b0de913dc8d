-- `slotmap::size_of`: the number that the word says, held against the roster's limits.
use mathlib.Core.Path.{ap, ◌∙◌}
use Prim.Native.Nat.{ℕ}
use Rattle.std.specs.Prelude.{Result}
use Rattle.std.specs.Result.{result_ok}
use Rattle.slotmap.proofs.Sizes.{says, no_size}
use Rattle.slotmap.proofs.size_of.Goals as goal

pub returns-in_err-size : goal.returns-in_err-size
returns-in_err-size c =
    let e = c.in_err-size.ensures.value ∙ ap (λ (r : Result ℕ ℕ). result_ok r) c.number.ensures in
    rw (c.from_residual.ensures, no_size _ e)

pub returns-then-not-between : goal.returns-then-not-between
returns-then-not-between c =
    let e = says _ _ (c.in_ok-size.ensures.value ∙ ap (λ (r : Result ℕ ℕ). result_ok r) c.number.ensures) in
    rw (← e, ← c.if-not-between.ensures)

pub returns : goal.returns
returns c =
    let e = says _ _ (c.in_ok-size.ensures.value ∙ ap (λ (r : Result ℕ ℕ). result_ok r) c.number.ensures) in
    rw (← e, ← c.if-not-between.ensures)
