-- The walk over the slots that looks at every bit, one slot a turn, as far as the table and the bitmap both go.
use Rattle.std.specs.Prelude.{None, Option, Some}
use mathlib.Core.Path.{◌≡◌, refl}
use mathlib.Core.Bool.{Bool, true, false, cond}
use mathlib.Core.List.{List}
use Prim.Native.Nat.{ℕ, ◌+◌, ◌*◌, ◌/◌, ◌%◌, ◌^◌, ◌≤◌, ◌<◌}
use native.Mathlib.Nat.{le_trans}
use native.Mathlib.Omega.{arith}
use lib.Dec.{leb}
use lib.ListN.{length, get_or, set}
use borrow.Author.Tests.{eq-eqb, ne_eqb, leb-true, leb-false}
use Rattle.tables.specs.Sets.{claimed}
use Rattle.tables.proofs.Bitmap.{past_the_end}
use Rattle.ownership.specs.Claim.{Claimant, fate, or_else, claim}
use Rattle.ownership.specs.declared.Fate.TheVariants.{Bound, Rebound, Stale, Stays}
use Rattle.ownership.proofs.Walk.{Stands, begin, unclaimed, passes, finish}
use Rattle.ownership.proofs.Walk as walk

-- ---- how far it goes: the shorter of the table and the bitmap

abbrev Reach : ℕ → ℕ → ℕ
Reach slots bytes = cond (leb bytes (slots / 8)) (bytes * 8) slots

within_table : (slots bytes : ℕ) → Reach slots bytes ≤ slots
within_table slots bytes = go (leb bytes (slots / 8)) refl
  where
    go : (t : Bool) → leb bytes (slots / 8) ≡ t → cond t (bytes * 8) slots ≤ slots
    go true e = let h : bytes ≤ slots / 8 = leb-true _ _ e in omega arith
    go false e = omega arith

within_bitmap : (slots bytes : ℕ) → Reach slots bytes ≤ bytes * 8
within_bitmap slots bytes = go (leb bytes (slots / 8)) refl
  where
    go : (t : Bool) → leb bytes (slots / 8) ≡ t → cond t (bytes * 8) slots ≤ bytes * 8
    go true e = omega arith
    go false e = let h : slots / 8 < bytes = leb-false _ _ e in omega arith

beyond : (m : List ℕ) (slots k : ℕ) → Reach slots (length m) ≤ k → k < slots → claimed m k ≡ false
beyond m slots k h g = past_the_end m k (short (leb (length m) (slots / 8)) h)
  where
    short : (t : Bool) → cond t (length m * 8) slots ≤ k → length m ≤ k / 8
    short true h = omega arith
    short false h = absurd (omega arith)

-- ---- the loop's invariant at slot s

pub record Goes (c : Claimant) (m l₀ : List ℕ) (end s : ℕ) (l : List ℕ) (b r : ℕ) (z : Option ℕ) : Type 0 where
  pub table : end ≤ length l₀
  pub bitmap : end ≤ length m * 8
  pub stands : Stands c m (claim c m l₀) (length l₀) s l b r z

module _ {c : Claimant} {m l₀ : List ℕ} where
  pub starts : {end : ℕ} → end ≡ Reach (length l₀) (length m) → Goes c m l₀ end 0 l₀ 0 0 None
  starts e = record { table = rw e (within_table (length l₀) (length m)); bitmap = rw e (within_bitmap (length l₀) (length m)); stands = begin }

  module _ {end s : ℕ} {l : List ℕ} {b r : ℕ} {z : Option ℕ} (i : Goes c m l₀ end s l b r z) where
    on : {l' : List ℕ} {b' r' : ℕ} {z' : Option ℕ} → Stands c m (claim c m l₀) (length l₀) (s + 1) l' b' r' z' → Goes c m l₀ end (s + 1) l' b' r' z'
    on s = record { table = i.table; bitmap = i.bitmap; stands = s }

    module _ (t : s < end) where
      in_table : s < length l
      in_table = omega (arith, i.table, i.stands.long)

      -- a bit that is set: the slot by its fate
      module _ (h : get_or m (s / 8) 0 / 2 ^ (s % 8) % 2 ≡ 1) where
        pub binds : fate c (get_or l s 0) ≡ Bound → Goes c m l₀ end (s + 1) (set l s c.sender) (b + 1) r z
        binds e = on (walk.binds i.stands in_table (eq-eqb _ _ h) e)

        pub rebinds : fate c (get_or l s 0) ≡ Rebound → Goes c m l₀ end (s + 1) (set l s c.sender) b (r + 1) z
        rebinds e = on (walk.rebinds i.stands in_table (eq-eqb _ _ h) e)

        pub tells : {z' : Option ℕ} → z' ≡ or_else z (Some s) → fate c (get_or l s 0) ≡ Stale → Goes c m l₀ end (s + 1) l b r z'
        tells q e = on (walk.tells i.stands in_table (eq-eqb _ _ h) q e)

        pub keeps : fate c (get_or l s 0) ≡ Stays → Goes c m l₀ end (s + 1) l b r z
        keeps e = on (walk.keeps i.stands in_table (eq-eqb _ _ h) e)

      -- one that is not
      pub skips : (get_or m (s / 8) 0 / 2 ^ (s % 8) % 2 ≡ 1 → ⊥) → Goes c m l₀ end (s + 1) l b r z
      skips f = on (passes i.stands (omega arith) (λ k g h t. let e : k ≡ s = omega arith in unclaimed c m k (get_or l k 0) (rw e (ne_eqb _ _ f))))

    -- past the shorter of the two nothing is claimed
    pub ends : end ≡ Reach (length l₀) (length m) → end ≤ s → record { tally = record { bound = b; rebound = r; stale = z }; slots = l } ≡ claim c m l₀
    ends e h =
        finish (passes i.stands {s' = s + length l} (omega arith) (λ k g f t. unclaimed c m k (get_or l k 0) (beyond m (length l₀) k (rw e at (le_trans h g)) (rw i.stands.long at t)))) (omega arith)
