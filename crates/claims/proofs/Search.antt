-- The search for a newer owner, 64 slots at a time: it goes on over slots that are not claimed.
use Rattle.std.specs.Prelude.{None, Some}
use mathlib.Core.Path.{◌≡◌, refl, sym, ◌∙◌}
use mathlib.Core.Bool.{Bool, true, false}
use mathlib.Core.List.{List}
use Prim.Native.Nat.{ℕ, ◌+◌, ◌-◌, ◌≤◌, ◌<◌}
use native.Mathlib.Decide.{dec_lt}
use native.Mathlib.Omega.{arith}
use lib.ListN.{length, drop, get_or}
use Rattle.tables.specs.Lists.{first_from}
use Rattle.tables.specs.Sets.{claimed}
use Rattle.tables.proofs.Walks.{first_here, first_past, first_ended, stretch}
use Rattle.bitmaps.proofs.Claims.{Carries}

module _ (p : ℕ → ℕ → Bool) (xs : List ℕ) where
  -- a place where nothing is found: one that does not pass, or none
  still : (s : ℕ) → (s < length xs → p s (get_or xs s 0) ≡ false) → first_from p s (drop s xs) ≡ first_from p (s + 1) (drop (s + 1) xs)
  still s f = by (dec_lt s (length xs))
    where
      by : Dec (s < length xs) → first_from p s (drop s xs) ≡ first_from p (s + 1) (drop (s + 1) xs)
      by (yes h) = first_past p xs s 0 h (f h)
      by (no g) = first_ended p xs s (omega arith) ∙ sym (first_ended p xs (s + 1) (omega arith))

  -- nothing below s passes
  pub record Come (s : ℕ) : Type 0 where
    pub to : first_from p 0 xs ≡ first_from p s (drop s xs)

  pub set_out : Come 0
  set_out = record { to = refl }

  pub passed : {s : ℕ} → Come s → (s' : ℕ) → s ≤ s' → ((k : ℕ) → s ≤ k → k < s' → k < length xs → p k (get_or xs k 0) ≡ false) → Come s'
  passed {s} c s' h f = let e : s + (s' - s) ≡ s' = omega arith in record { to = c.to ∙ (rw e at (stretch (λ k. first_from p k (drop k xs)) s (s' - s) (λ k a t. still k (f k a (omega arith))))) }

  pub arrived : {s : ℕ} → Come s → length xs ≤ s → None ≡ first_from p 0 xs
  arrived {s} c h = sym (c.to ∙ first_ended p xs s h)

  -- over slots that are not claimed, where only a claimed one passes
  pub carries : (m : List ℕ) → ((s o : ℕ) → claimed m s ≡ false → p s o ≡ false) → Carries Come m (length xs)
  carries m only = record { over = λ {s} {s'} h f c. passed c s' h (λ k a t u. only k (get_or xs k 0) (f k a t u)) }

  -- a turn: it is found here, or not
  pub here : (s : ℕ) → Come s → s < length xs → p s (get_or xs s 0) ≡ true → Some s ≡ first_from p 0 xs
  here s c h e = sym (c.to ∙ first_here p xs s 0 h e)

  pub not_here : (s : ℕ) → Come s → p s (get_or xs s 0) ≡ false → Come (s + 1)
  not_here s c e = passed c (s + 1) (omega arith) (λ k a t u. let q : k ≡ s = omega arith in rw q e)
