-- Words: the same ones, and where a byte stands in one.
use Rattle.std.specs.Prelude.{None, Option, Some}
use Rattle.std.specs.Option.{unwrap_or}
use mathlib.Core.Path.{◌≡◌, refl, sym, ap, ◌∙◌}
use mathlib.Core.Bool.{Bool, true, false, cond, ◌&&◌}
use mathlib.Core.List.{List, [], ◌∷◌}
use Prim.Native.Nat.{ℕ, ◌≤◌}
use native.Mathlib.Omega.{arith}
use lib.Dec.{eqb}
use lib.ListN.{length}
use lib.Pointwise.{pointwise}
use Rattle.tables.proofs.Walks.{first_within}
use Rattle.tables.specs.Lists.{first_byte}
use Rattle.words.specs.Words.{up_to, same}

both : (s t : Bool) → (s && t) ≡ cond s t false
both true t = refl
both false t = refl

-- slices that are equal
pub equal : (a b : List ℕ) → pointwise eqb a b ≡ same a b
unfolding same
equal [] [] = refl
equal [] (d ∷ ds) = refl
equal (c ∷ cs) [] = refl
equal (c ∷ cs) (d ∷ ds) = both (eqb c d) (pointwise eqb cs ds) ∙ ap (λ (t : Bool). cond (eqb c d) t false) (equal cs ds)

-- what the search found, or the end
pub found : (byte : ℕ) (text : List ℕ) (o : Option ℕ) → o ≡ first_byte byte text → (unwrap_or o (length text) ≡ up_to byte text) × (unwrap_or o (length text) ≤ length text)
unfolding up_to
found byte text None e = (rw (← e), omega arith)
found byte text (Some k) e = (rw (← e), omega (arith, first_within _ text 0 k (sym e)))
