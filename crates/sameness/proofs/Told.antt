-- What a call tells and leaves of two nodes, and the checks that are made on both.
use mathlib.Core.Path.{◌≡◌, refl, subst}
use mathlib.Core.Bool.{Bool, true, false, cond, not}
use mathlib.Core.List.{List, [], ◌∷◌}
use Prim.Native.Nat.{ℕ}
use Rattle.tables.specs.Checks.{checked}
use Rattle.answers.specs.declared.Answer.{Answer}
use Rattle.answers.specs.declared.Answer.TheVariants.{WrongLength, Unsound}
use Rattle.answers.proofs.Checks.{test_for, refusals_pass, past}
use Rattle.state.specs.Outcomes.{answered, Stepped}
use Rattle.state.specs.declared.Node.{Node}
use Rattle.entry.specs.Entry.{entry_checks}
use Rattle.kinds.specs.Kinds.{keeping}
use Rattle.sameness.specs.Sameness.{SameStep}
use Rattle.sameness.proofs.Seen.{Alike, alike_same, alike_sound}

-- `SameStep`, and the nodes alike
pub record Told (x y : Stepped) : Type 0 where
  pub answer : x.outcome.answer ≡ y.outcome.answer
  pub node : Alike x.outcome.node y.outcome.node
  pub slots : x.slots ≡ y.slots
  pub reports : x.reports ≡ y.reports

pub same_step : (x y : Stepped) → Told x y → SameStep x y
same_step x y t = record { answer = t.answer; node = alike_same _ _ t.node; slots = t.slots; reports = t.reports }

-- the same answer, and the tables as they were
pub answered_told : (a b : Node) → Alike a b → (slots reports : List ℕ) (x : Answer) → Told (keeping slots reports (answered a x)) (keeping slots reports (answered b x))
answered_told a b e slots reports x = record { answer = refl; node = e; slots = refl; reports = refl }

-- ---- checks

-- made on two at once, they are made on each
pairwise : {A : Type 0} (f g : Answer → A) (rows : List (Bool × Answer)) (x y : A) → checked {A = A × A} (λ r. (f r, g r)) rows (x, y) ≡ (checked f rows x, checked g rows y)
pairwise f g [] x y = refl
pairwise {A} f g (row ∷ rows) x y = by row.0 (pairwise f g rows x y)
  where
    by : (t : Bool) {p : A × A} {u v : A} → p ≡ (u, v) → cond {A = A × A} t (f row.1, g row.1) p ≡ (cond t (f row.1) u, cond t (g row.1) v)
    by true e = refl
    by false e = e

any_passes : (rows : List (Bool × Answer)) → refusals_pass (λ r. true) rows ≡ true
any_passes [] = refl
any_passes (row ∷ rows) = any_passes rows

-- 1 and 7
pub entry_alike : (a b : Node) → Alike a b → (lengths : Bool) → entry_checks lengths a ≡ entry_checks lengths b
entry_alike a b e lengths = λ i. (not lengths, WrongLength) ∷ (not (alike_sound a b e i), Unsound) ∷ []

-- the same checks tell the same: the same refusal, or what comes after them, where each test failed
module _ {A : Type 0} (step : A → Stepped) (f g : Answer → A) (rows others : List (Bool × Answer)) (same : rows ≡ others) (x y : A) where
  abbrev Both : A × A → Type 0
  Both p = Told (step p.0) (step p.1)

  pub checked_told : ((r : Answer) → Told (step (f r)) (step (g r))) → (((k : ℕ) → test_for k rows ≡ false) → Told (step x) (step y)) → Told (step (checked f rows x)) (step (checked g others y))
  checked_told refused passed =
      subst (λ (l : List (Bool × Answer)). Both (checked f rows x, checked g l y)) same
      (subst Both (pairwise f g rows x y) (past Both (λ r. true) (λ r. (f r, g r)) rows (x, y) (any_passes rows) (λ r q. refused r) passed))
