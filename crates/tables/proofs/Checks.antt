-- Laws of conditions, all together or one of them, and what a test in code says of a definition.
use mathlib.Core.Path.{◌≡◌, refl, sym, ◌∙◌}
use mathlib.Core.Bool.{Bool, true, false, cond, not}
use mathlib.Core.List.{List, [], ◌∷◌}
use Prim.Native.Nat.{ℕ, zero, suc}
use native.Mathlib.Omega.{arith}
use lib.ListN.{get_or}
use borrow.Author.Tests.{not-true, not-false}
use Rattle.tables.specs.Checks.{all_of, any_of}

-- two answers of a test that cannot be
pub never : {A : Type 0} → true ≡ false → A
never e = let z : ◌≡◌ {A = ℕ} 0 1 = cc in absurd (omega arith)

-- ---- what a test of a callee's answer says

pub no : {r x : Bool} → r ≡ x → not r ≡ true → x ≡ false
no e h = sym e ∙ not-true _ h

pub yes : {r x : Bool} → r ≡ x → not r ≡ false → x ≡ true
yes e h = sym e ∙ not-false _ h

-- ---- conditions that all hold

both : (b r : Bool) → cond b r false ≡ true → (b ≡ true) × (r ≡ true)
both true r h = (refl, h)
both false r h = let y : ◌≡◌ {A = ℕ} 0 1 = cc in absurd (omega arith)

-- each of them, by its place
pub part : (k : ℕ) (l : List Bool) → all_of l ≡ true → get_or l k true ≡ true
part k [] h = refl
part zero (b ∷ []) h = h
part (suc k) (b ∷ []) h = refl
part zero (b ∷ c ∷ l) h = (both b (all_of (c ∷ l)) h).0
part (suc k) (b ∷ c ∷ l) h = part k (c ∷ l) (both b (all_of (c ∷ l)) h).1

skip : (b r : Bool) → false ≡ r → false ≡ cond b r false
skip true r h = h
skip false r h = refl

-- one that fails is enough
pub fails : (k : ℕ) (l : List Bool) → get_or l k true ≡ false → false ≡ all_of l
fails k [] h = sym h
fails zero (b ∷ []) h = sym h
fails (suc k) (b ∷ []) h = let z : ◌≡◌ {A = Bool} true false = h in let y : ◌≡◌ {A = ℕ} 0 1 = cc in absurd (omega arith)
fails zero (b ∷ c ∷ l) h = rw h
fails (suc k) (b ∷ c ∷ l) h = skip b (all_of (c ∷ l)) (fails k (c ∷ l) h)

-- ---- conditions of which one holds

found : (b r : Bool) → true ≡ r → true ≡ cond b true r
found true r h = refl
found false r h = h

-- one that holds is enough
pub holds : (k : ℕ) (l : List Bool) → get_or l k false ≡ true → true ≡ any_of l
holds k [] h = sym h
holds zero (b ∷ []) h = sym h
holds (suc k) (b ∷ []) h = let z : ◌≡◌ {A = Bool} false true = h in let y : ◌≡◌ {A = ℕ} 0 1 = cc in absurd (omega arith)
holds zero (b ∷ c ∷ l) h = rw h
holds (suc k) (b ∷ c ∷ l) h = found b (any_of (c ∷ l)) (holds k (c ∷ l) h)

neither : (b r : Bool) → cond b true r ≡ false → (b ≡ false) × (r ≡ false)
neither true r h = let y : ◌≡◌ {A = ℕ} 0 1 = cc in absurd (omega arith)
neither false r h = (refl, h)

-- where none holds, each fails
pub none : (k : ℕ) (l : List Bool) → any_of l ≡ false → get_or l k false ≡ false
none k [] h = refl
none zero (b ∷ []) h = h
none (suc k) (b ∷ []) h = refl
none zero (b ∷ c ∷ l) h = (neither b (any_of (c ∷ l)) h).0
none (suc k) (b ∷ c ∷ l) h = none k (c ∷ l) (neither b (any_of (c ∷ l)) h).1
