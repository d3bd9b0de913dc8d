-- Checks made first, and then what they came to.
use Rattle.std.specs.Prelude.{Err, Ok}
use mathlib.Core.Path.{◌≡◌, refl}
use mathlib.Core.Bool.{Bool, true, false, cond, not}
use mathlib.Core.List.{List, [], ◌∷◌, ◌++◌}
use Prim.Native.Nat.{ℕ}
use native.Mathlib.Omega.{arith}
use lib.Dec.{eqb}
use Rattle.tables.specs.Checks.{checked, all_of}
use Rattle.answers.specs.Answers.{number}
use Rattle.answers.specs.Refusing.{Check, cleared}
use Rattle.answers.specs.declared.Answer.{Answer}

-- a refusal, or the rest
abbrev pub on_check : {A : Type 0} → (Answer → A) → A → Check → A
on_check refuse rest (Ok tt) = rest
on_check refuse rest (Err a) = refuse a

step : {A : Type 0} (refuse : Answer → A) (rest : A) (t : Bool) (a : Answer) (x : A) (c : Check) → x ≡ on_check refuse rest c → cond t (refuse a) x ≡ on_check refuse rest (cond t (Err a) c)
step refuse rest true a x c e = refl
step refuse rest false a x c e = e

pub by_check : {A : Type 0} (refuse : Answer → A) (rows : List (Bool × Answer)) (rest : A) → checked refuse rows rest ≡ on_check refuse rest (checked Err rows cleared)
by_check refuse [] rest = refl
by_check refuse (row ∷ rows) rest = step refuse rest row.0 row.1 (checked refuse rows rest) (checked Err rows cleared) (by_check refuse rows rest)

-- ---- a check by the number of its answer

-- the test whose answer has that number
abbrev pub test_for : ℕ → List (Bool × Answer) → Bool
test_for a [] = false
test_for a (row ∷ rows) = cond (eqb (number row.1) a) row.0 (test_for a rows)

-- where a row fails and the rows after it have that test failing, so has the whole list
fell : (a : ℕ) (row : Bool × Answer) (rows : List (Bool × Answer)) → row.0 ≡ false → test_for a rows ≡ false → test_for a (row ∷ rows) ≡ false
fell a row rows q f = go (eqb (number row.1) a)
  where
    go : (b : Bool) → cond b row.0 (test_for a rows) ≡ false
    go true = q
    go false = f

-- where none refused, the test for each number failed
pub unrefused : (a : ℕ) (rows : List (Bool × Answer)) → checked Err rows cleared ≡ cleared → test_for a rows ≡ false
unrefused a [] e = refl
unrefused a (row ∷ rows) e = go row.0 refl e (unrefused a rows)
  where
    go : (t : Bool) → row.0 ≡ t → cond t (Err row.1) (checked Err rows cleared) ≡ cleared → (checked Err rows cleared ≡ cleared → test_for a rows ≡ false) → test_for a (row ∷ rows) ≡ false
    go true q e f = let z : ◌≡◌ {A = ℕ} 0 1 = cc in absurd (omega arith)
    go false q e f = fell a row rows q (f e)

-- an answer other than 0, 10 and 30
abbrev pub refuses : Answer → Bool
refuses a = all_of (not (eqb (number a) 0) ∷ not (eqb (number a) 10) ∷ not (eqb (number a) 30) ∷ [])

-- every answer of the rows passes a test
abbrev pub refusals_pass : (Answer → Bool) → List (Bool × Answer) → Bool
refusals_pass q [] = true
refusals_pass q (row ∷ rows) = cond (q row.1) (refusals_pass q rows) false

-- what holds of every refusal whose answer passes a test that all of them pass, and of what comes after the checks, holds of
-- the outcome; that each test failed is at hand there, by its answer's number
pub past : {A : Type 0} (P : A → Type 0) (q : Answer → Bool) (refuse : Answer → A) (rows : List (Bool × Answer)) (rest : A)
    → refusals_pass q rows ≡ true → ((a : Answer) → q a ≡ true → P (refuse a)) → (((a : ℕ) → test_for a rows ≡ false) → P rest) → P (checked refuse rows rest)
past P q refuse [] rest all f g = g (λ a. refl)
past P q refuse (row ∷ rows) rest all f g = go row.0 refl (q row.1) refl all (λ e h. past P q refuse rows rest e f h)
  where
    go : (t : Bool) → row.0 ≡ t → (b : Bool) → q row.1 ≡ b → cond b (refusals_pass q rows) false ≡ true
        → (refusals_pass q rows ≡ true → (((a : ℕ) → test_for a rows ≡ false) → P rest) → P (checked refuse rows rest))
        → P (cond t (refuse row.1) (checked refuse rows rest))
    go t e false e' all h = let z : ◌≡◌ {A = ℕ} 0 1 = cc in absurd (omega arith)
    go true e true e' all h = f row.1 e'
    go false e true e' all h = h all (λ k. g (λ a. fell a row rows e (k a)))

-- checks one list after another: the first list's refusal, or the second list
pub in_two : {A : Type 0} (refuse : Answer → A) (first second : List (Bool × Answer)) (rest : A) → checked refuse (first ++ second) rest ≡ on_check refuse (checked refuse second rest) (checked Err first cleared)
in_two refuse [] second rest = refl
in_two refuse (row ∷ first) second rest = step refuse (checked refuse second rest) row.0 row.1 (checked refuse (first ++ second) rest) (checked Err first cleared) (in_two refuse first second rest)
