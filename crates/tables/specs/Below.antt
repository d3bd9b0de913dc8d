-- Tests, counts and changes over the numbers below a bound.
use Rattle.std.specs.Prelude.{ℕ, zero, suc, ◌+◌, Bool, true, false, cond}

-- every number below n passes
unfoldable pub every : ℕ → (ℕ → Bool) → Bool
every zero p = true
every (suc n) p = cond (p n) (every n p) false

-- how many numbers below n pass
unfoldable pub count : (ℕ → Bool) → ℕ → ℕ
count p zero = 0
count p (suc n) = cond (p n) (count p n + 1) (count p n)

-- a change at each number below n, from 0 on
unfoldable pub in_turn : {A : Type 0} → (ℕ → A → A) → ℕ → A → A
in_turn f zero a = a
in_turn f (suc n) a = f n (in_turn f n a)
