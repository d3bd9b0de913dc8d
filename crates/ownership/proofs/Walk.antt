-- The walk over the slots: what was done and counted below s, with what the slots from s on come to, is the whole claim.
use Rattle.std.specs.Prelude.{None, Option, Some}
use mathlib.Core.Path.{◌≡◌, refl, sym, ap, ◌∙◌}
use mathlib.Core.Bool.{true, false}
use mathlib.Core.List.{List, ◌++◌, append-nil}
use Prim.Native.Nat.{ℕ, ◌+◌, ◌-◌, ◌≤◌, ◌<◌}
use native.Mathlib.Nat.{add-zero, zero-add}
use native.Mathlib.Decide.{dec_lt}
use native.Mathlib.Omega.{arith}
use lib.ListN.{length, take, drop, get_or, set, length-set, drop_of_length-le}
use lib.Seq.{take_all}
use Rattle.tables.specs.Lists.{map_from, count_from, first_from}
use Rattle.tables.specs.Sets.{claimed}
use Rattle.ownership.specs.Claim.{Claimant, Claimed, fate, fate_at, entry_after, is_bound, is_rebound, is_stale, or_else, claim}
use Rattle.ownership.specs.declared.Fate.{Fate}
use Rattle.ownership.specs.declared.Fate.TheVariants.{Bound, Rebound, Stale, Stays}
use Rattle.tables.proofs.Walks.{Turn, stored, kept, map_turn, count_hit, count_miss, first_hit, first_miss, stretch}

-- two searches, one after the other
or_else_assoc : (a b c : Option ℕ) → or_else (or_else a b) c ≡ or_else a (or_else b c)
or_else_assoc None b c = refl
or_else_assoc (Some i) b c = refl

or_else_nothing : (a : Option ℕ) → or_else a None ≡ a
or_else_nothing None = refl
or_else_nothing (Some i) = refl

-- what the table and the counts at slot s come to in the end
unfoldable pub left : Claimant → List ℕ → ℕ → List ℕ → ℕ → ℕ → Option ℕ → Claimed
left c m s l b r z = record {
  tally = record {
    bound = b + count_from (λ k o. is_bound (fate_at c m k o)) s (drop s l);
    rebound = r + count_from (λ k o. is_rebound (fate_at c m k o)) s (drop s l);
    stale = or_else z (first_from (λ k o. is_stale (fate_at c m k o)) s (drop s l));
  };
  slots = take s l ++ map_from (λ k o. entry_after c (fate_at c m k o) o) s (drop s l);
}

module _ (c : Claimant) (m : List ℕ) where
  -- at the start it is the claim
  pub starts : (l : List ℕ) → left c m 0 l 0 0 None ≡ claim c m l
  unfolding left claim
  starts l = simp zero-add

  module _ (s : ℕ) (l : List ℕ) (b r : ℕ) (z : Option ℕ) (h : s < length l) where
    turn : (φ : Fate) (n : List ℕ) → fate_at c m s (get_or l s 0) ≡ φ → Turn l n s (entry_after c φ (get_or l s 0)) → (b' r' : ℕ) (z' : Option ℕ)
        → b + count_from (λ k o. is_bound (fate_at c m k o)) s (drop s l) ≡ b' + count_from (λ k o. is_bound (fate_at c m k o)) (s + 1) (drop (s + 1) n)
        → r + count_from (λ k o. is_rebound (fate_at c m k o)) s (drop s l) ≡ r' + count_from (λ k o. is_rebound (fate_at c m k o)) (s + 1) (drop (s + 1) n)
        → or_else z (first_from (λ k o. is_stale (fate_at c m k o)) s (drop s l)) ≡ or_else z' (first_from (λ k o. is_stale (fate_at c m k o)) (s + 1) (drop (s + 1) n))
        → left c m s l b r z ≡ left c m (s + 1) n b' r' z'
    unfolding left
    turn φ n e t b' r' z' eb er ez = rw (eb, er, ez, map_turn 0 h t (λ k o. entry_after c (fate_at c m k o) o) (ap (λ (ψ : Fate). entry_after c ψ (get_or l s 0)) e))

    missed : {n : List ℕ} {v : ℕ} (φ : Fate) → fate_at c m s (get_or l s 0) ≡ φ → is_stale φ ≡ false → Turn l n s v
        → or_else z (first_from (λ k o. is_stale (fate_at c m k o)) s (drop s l)) ≡ or_else z (first_from (λ k o. is_stale (fate_at c m k o)) (s + 1) (drop (s + 1) n))
    missed φ e q t = ap (or_else z) (first_miss 0 h t (λ k o. is_stale (fate_at c m k o)) (ap is_stale e ∙ q))

    -- a slot by its fate
    bound : fate_at c m s (get_or l s 0) ≡ Bound → left c m s l b r z ≡ left c m (s + 1) (set l s c.sender) (b + 1) r z
    bound e = let t = stored l s h c.sender in
        turn Bound (set l s c.sender) e t (b + 1) r z (count_hit 0 h t _ b (ap is_bound e)) (count_miss 0 h t _ r (ap is_rebound e)) (missed Bound e refl t)

    rebound : fate_at c m s (get_or l s 0) ≡ Rebound → left c m s l b r z ≡ left c m (s + 1) (set l s c.sender) b (r + 1) z
    rebound e = let t = stored l s h c.sender in
        turn Rebound (set l s c.sender) e t b (r + 1) z (count_miss 0 h t _ b (ap is_bound e)) (count_hit 0 h t _ r (ap is_rebound e)) (missed Rebound e refl t)

    stays : fate_at c m s (get_or l s 0) ≡ Stays → left c m s l b r z ≡ left c m (s + 1) l b r z
    stays e = let t = kept l s h 0 in
        turn Stays l e t b r z (count_miss 0 h t _ b (ap is_bound e)) (count_miss 0 h t _ r (ap is_rebound e)) (missed Stays e refl t)

    stale : fate_at c m s (get_or l s 0) ≡ Stale → left c m s l b r z ≡ left c m (s + 1) l b r (or_else z (Some s))
    stale e = let t = kept l s h 0 in
        turn Stale l e t b r (or_else z (Some s)) (count_miss 0 h t _ b (ap is_bound e)) (count_miss 0 h t _ r (ap is_rebound e))
        (rw (or_else_assoc, first_hit 0 h t (λ k o. is_stale (fate_at c m k o)) (ap is_stale e)))

  -- a slot that is claimed has the fate of its entry, another stays
  by_entry : (s o : ℕ) (φ : Fate) → claimed m s ≡ true → fate c o ≡ φ → fate_at c m s o ≡ φ
  by_entry s o φ h e = rw h e

  pub unclaimed : (s o : ℕ) → claimed m s ≡ false → fate_at c m s o ≡ Stays
  unclaimed s o h = rw h

  module _ (l : List ℕ) (b r : ℕ) (z : Option ℕ) where
    -- past the table's end nothing is left to do
    ends : (s : ℕ) → length l ≤ s → left c m s l b r z ≡ record { tally = record { bound = b; rebound = r; stale = z }; slots = l }
    unfolding left map_from count_from first_from
    ends s h = rw (drop_of_length-le l h, take_all s l h, append-nil, or_else_nothing, add-zero b, add-zero r)

    -- a place where nothing changes: a slot that stays, or none
    still : (s : ℕ) → (s < length l → fate_at c m s (get_or l s 0) ≡ Stays) → left c m s l b r z ≡ left c m (s + 1) l b r z
    still s f = by (dec_lt s (length l))
      where
        by : Dec (s < length l) → left c m s l b r z ≡ left c m (s + 1) l b r z
        by (yes h) = stays s l b r z h (f h)
        by (no g) = ends s (omega arith) ∙ sym (ends (s + 1) (omega arith))

-- ---- where the walk stands at slot s of a table of n: what was done below it, with what is left, comes to g

pub record Stands (c : Claimant) (m : List ℕ) (g : Claimed) (n s : ℕ) (l : List ℕ) (b r : ℕ) (z : Option ℕ) : Type 0 where
  pub long : length l ≡ n
  pub bounds : b ≤ s
  pub rebounds : r ≤ s
  pub is : left c m s l b r z ≡ g

-- at the start it comes to the claim
pub begin : {c : Claimant} {m l : List ℕ} → Stands c m (claim c m l) (length l) 0 l 0 0 None
begin {c} {m} {l} = record { long = refl; bounds = omega arith; rebounds = omega arith; is = starts c m l }

module _ {c : Claimant} {m : List ℕ} {g : Claimed} {n : ℕ} where
  module _ {s : ℕ} {l : List ℕ} {b r : ℕ} {z : Option ℕ} (i : Stands c m g n s l b r z) where
    -- a walk that goes on from here: it starts with what is left here, and comes to the same
    pub onwards : Stands c m (left c m s l b r z) (length l) s l b r z
    onwards = record { long = refl; bounds = i.bounds; rebounds = i.rebounds; is = refl }

    pub joined : {s' : ℕ} {l' : List ℕ} {b' r' : ℕ} {z' : Option ℕ} → Stands c m (left c m s l b r z) (length l) s' l' b' r' z' → Stands c m g n s' l' b' r' z'
    joined j = record { long = j.long ∙ i.long; bounds = j.bounds; rebounds = j.rebounds; is = j.is ∙ i.is }

    -- a turn that leaves l', b', r' and z'
    on : {l' : List ℕ} {b' r' : ℕ} {z' : Option ℕ} → length l' ≡ length l → b' ≤ b + 1 → r' ≤ r + 1 → left c m s l b r z ≡ left c m (s + 1) l' b' r' z' → Stands c m g n (s + 1) l' b' r' z'
    on k hb hr e = record {
      long = k ∙ i.long;
      bounds = omega (arith, i.bounds);
      rebounds = omega (arith, i.rebounds);
      is = sym e ∙ i.is;
    }

    module _ (t : s < length l) where
      module _ (claims : claimed m s ≡ true) where
        pub binds : fate c (get_or l s 0) ≡ Bound → Stands c m g n (s + 1) (set l s c.sender) (b + 1) r z
        binds e = on (length-set l s c.sender) (omega arith) (omega arith) (bound c m s l b r z t (by_entry c m s (get_or l s 0) Bound claims e))

        pub rebinds : fate c (get_or l s 0) ≡ Rebound → Stands c m g n (s + 1) (set l s c.sender) b (r + 1) z
        rebinds e = on (length-set l s c.sender) (omega arith) (omega arith) (rebound c m s l b r z t (by_entry c m s (get_or l s 0) Rebound claims e))

        pub tells : {z' : Option ℕ} → z' ≡ or_else z (Some s) → fate c (get_or l s 0) ≡ Stale → Stands c m g n (s + 1) l b r z'
        tells q e = on refl (omega arith) (omega arith) (stale c m s l b r z t (by_entry c m s (get_or l s 0) Stale claims e) ∙ ap (left c m (s + 1) l b r) (sym q))

        pub keeps : fate c (get_or l s 0) ≡ Stays → Stands c m g n (s + 1) l b r z
        keeps e = on refl (omega arith) (omega arith) (stays c m s l b r z t (by_entry c m s (get_or l s 0) Stays claims e))

    -- slots up to s' that stay
    pub passes : {s' : ℕ} → s ≤ s' → ((k : ℕ) → s ≤ k → k < s' → k < length l → fate_at c m k (get_or l k 0) ≡ Stays) → Stands c m g n s' l b r z
    passes {s'} h f = record {
      long = i.long;
      bounds = omega (arith, i.bounds);
      rebounds = omega (arith, i.rebounds);
      is = let e : s + (s' - s) ≡ s' = omega arith in sym (rw e at (stretch (λ k. left c m k l b r z) s (s' - s) (λ k a t. still c m l b r z k (f k a (omega arith))))) ∙ i.is;
    }

    pub finish : length l ≤ s → record { tally = record { bound = b; rebound = r; stale = z }; slots = l } ≡ g
    finish h = sym (ends c m l b r z s h) ∙ i.is
