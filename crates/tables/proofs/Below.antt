-- Laws of tests, counts and changes over the numbers below a bound.
use mathlib.Core.Path.{◌≡◌, refl, ap₂}
use mathlib.Core.Bool.{Bool, true, false, cond}
use mathlib.Core.Logic.{⊎_elim}
use Prim.Native.Nat.{ℕ, zero, suc, ◌+◌, ◌≤◌, ◌<◌}
use native.Mathlib.Nat.{le_of_suc-le-suc, not-suc-le-zero, eq-or-lt_of_le}
use native.Mathlib.Numerals.{add-one}
use native.Mathlib.Omega.{arith}
use Rattle.tables.specs.Below.{every, count, in_turn}

-- ---- every

both : (b r : Bool) → cond b r false ≡ true → (b ≡ true) × (r ≡ true)
both true r h = (refl, h)
both false r h = let y : ◌≡◌ {A = ℕ} 0 1 = cc in absurd (omega arith)

skip : (b r : Bool) → false ≡ r → false ≡ cond b r false
skip true r h = h
skip false r h = refl

-- one at a time, and together
pub each : (p : ℕ → Bool) (n k : ℕ) → every n p ≡ true → k < n → p k ≡ true
unfolding every
each p zero k h l = absurd (not-suc-le-zero l)
each p (suc n) k h l =
    ⊎_elim (λ (q : k ≡ n). rw q (both (p n) (every n p) h).0) (λ (q : k < n). each p n k (both (p n) (every n p) h).1 q) (eq-or-lt_of_le (le_of_suc-le-suc l))

pub gather : (p : ℕ → Bool) (n : ℕ) → ((k : ℕ) → k < n → p k ≡ true) → every n p ≡ true
unfolding every
gather p zero f = refl
gather p (suc n) f = rw (f n (omega arith)) (gather p n (λ k l. f k (omega arith)))

-- one that does not pass
pub every_fails : (p : ℕ → Bool) (n k : ℕ) → k < n → p k ≡ false → false ≡ every n p
unfolding every
every_fails p zero k h e = absurd (not-suc-le-zero h)
every_fails p (suc n) k h e =
    ⊎_elim (λ (q : k ≡ n). rw (← q, e)) (λ (q : k < n). skip (p n) (every n p) (every_fails p n k q e)) (eq-or-lt_of_le (le_of_suc-le-suc h))

-- one more that does
pub every_more : (p : ℕ → Bool) (n : ℕ) → every n p ≡ true → p n ≡ true → every (n + 1) p ≡ true
unfolding every
every_more p n h e = rw (add-one n, every, e, h)

pub every_same : (p q : ℕ → Bool) (n : ℕ) → ((k : ℕ) → k < n → p k ≡ q k) → every n p ≡ every n q
unfolding every
every_same p q zero f = refl
every_same p q (suc n) f = ap₂ (λ (s t : Bool). cond s t false) (f n (omega arith)) (every_same p q n (λ k h. f k (omega arith)))

-- ---- count

pub count_more : (p : ℕ → Bool) (n : ℕ) → p n ≡ true → count p (n + 1) ≡ count p n + 1
unfolding count
count_more p n e = rw (add-one n, count, e)

pub count_same : (p : ℕ → Bool) (n : ℕ) → p n ≡ false → count p (n + 1) ≡ count p n
unfolding count
count_same p n e = rw (add-one n, count, e)

pub count_within : (p : ℕ → Bool) (n : ℕ) → count p n ≤ n
unfolding count
count_within p zero = omega arith
count_within p (suc n) = by (p n) (count_within p n)
  where
    by : (t : Bool) → count p n ≤ n → cond t (count p n + 1) (count p n) ≤ suc n
    by true h = omega arith
    by false h = omega arith

-- two tests that agree below the bound
pub count_like : (p q : ℕ → Bool) (n : ℕ) → ((k : ℕ) → k < n → p k ≡ q k) → count p n ≡ count q n
unfolding count
count_like p q zero f = refl
count_like p q (suc n) f = let e = count_like p q n (λ k h. f k (omega arith)) in rw (f n (omega arith), e)

-- ---- changes in turn

pub in_turn_more : {A : Type 0} (f : ℕ → A → A) (n : ℕ) (a : A) → in_turn f (n + 1) a ≡ f n (in_turn f n a)
unfolding in_turn
in_turn_more f n a = rw (add-one n, in_turn)

-- what each change keeps, all of them keep
pub in_turn_keeps : {A : Type 0} (P : A → Type 0) (f : ℕ → A → A) (n : ℕ) (a : A) → ((k : ℕ) (x : A) → k < n → P x → P (f k x)) → P a → P (in_turn f n a)
unfolding in_turn
in_turn_keeps P f zero a g h = h
in_turn_keeps P f (suc n) a g h = g n (in_turn f n a) (omega arith) (in_turn_keeps P f n a (λ k x l. g k x (omega arith)) h)
