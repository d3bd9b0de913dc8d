-- The reading of a claim 64 slots at a time: the walk goes on over slots that are not claimed, and over 64 that are the sender's own.
use Rattle.std.specs.Prelude.{Option}
use mathlib.Core.Path.{◌≡◌, refl, ◌∙◌}
use mathlib.Core.Bool.{Bool, true, false, cond}
use mathlib.Core.List.{List, [], ◌∷◌}
use Prim.Native.Nat.{ℕ, ◌+◌, ◌-◌, ◌≤◌, ◌<◌}
use native.Mathlib.Omega.{arith}
use lib.Dec.{eqb, ltb, leb}
use lib.ListN.{length, get_or}
use borrow.Author.Tests.{eq-eqb, eqb-true}
use Rattle.tables.specs.Sets.{claimed}
use Rattle.tables.proofs.Below.{each}
use Rattle.tables.proofs.Checks.{part}
use Rattle.bitmaps.proofs.Scan.{lowest}
use Rattle.bitmaps.proofs.Claims.{claims, in_table, Carries, Reads, opens, opens_none}
use Rattle.ownership.specs.Claim.{Claimant, Claimed, fate, fate_at}
use Rattle.ownership.specs.Own.{owned_by, all_own}
use Rattle.ownership.specs.declared.Fate.TheVariants.{Stays}
use Rattle.ownership.proofs.Walk.{Stands, passes, unclaimed}

-- the sender's own slots have this fate, claimed or not
own_fate : (c : Claimant) (m : List ℕ) (s o : ℕ) → ltb c.sender c.size ≡ true → o ≡ c.sender → fate_at c m s o ≡ Stays
unfolding fate
own_fate c m s o h e = by (claimed m s)
  where
    by : (t : Bool) → cond t (fate c o) Stays ≡ Stays
    by true = rw (e, h, eq-eqb c.sender c.sender refl)
    by false = refl

module _ {c : Claimant} {m : List ℕ} {g : Claimed} {n : ℕ} {l : List ℕ} {b r : ℕ} {z : Option ℕ} where
  -- over slots that are not claimed
  pub carries : Carries (λ s. Stands c m g n s l b r z) m n
  carries = record { over = λ h f i. passes i h (λ s a t u. unclaimed c m s (get_or l s 0) (f s a t (omega (arith, i.long)))) }

  -- over 64 of the sender's own
  own_over : {from : ℕ} → Stands c m g n from l b r z → all_own c.size c.sender l from ≡ true → Stands c m g n (from + 64) l b r z
  own_over {from} i q = passes i (omega arith) stays
    where
      tests : List Bool
      tests = ltb c.sender c.size ∷ leb (from + 64) (length l) ∷ owned_by c.sender l from ∷ []

      stays : (s : ℕ) → from ≤ s → s < from + 64 → s < length l → fate_at c m s (get_or l s 0) ≡ Stays
      stays s h t u =
          let p : from + (s - from) ≡ s = omega arith in
          let o = eqb-true (get_or l (from + (s - from)) 0) c.sender (each (λ k. eqb (get_or l (from + k) 0) c.sender) 64 (s - from) (part 2 tests q) (omega arith)) in
          own_fate c m s (get_or l s 0) (part 0 tests q) (rw p at o)

  -- the reading of the claims that have to be looked at
  pub starts_reading : {from w : ℕ} → Stands c m g n from l b r z → w ≡ cond (all_own c.size c.sender l from) 0 (claims m n from) → Reads (λ s. Stands c m g n s l b r z) m n from w
  starts_reading {from} {w} i e = by (all_own c.size c.sender l from) refl
    where
      by : (t : Bool) → all_own c.size c.sender l from ≡ t → Reads (λ s. Stands c m g n s l b r z) m n from w
      by true q = opens_none (e ∙ rw q) (own_over i q)
      by false q = opens carries (e ∙ rw q) i

  -- a turn is within the table as it stands
  pub in_slots : {from w : ℕ} → Reads (λ s. Stands c m g n s l b r z) m n from w → (w ≡ 0 → ⊥) → from + lowest w < length l
  in_slots i f = omega (arith, i.at.long, in_table i.unread f)
