-- What a claim changes, slot by slot and in numbers.
use mathlib.Core.Path.{◌≡◌, refl, sym, ◌∙◌}
use mathlib.Core.Bool.{Bool, true, false, cond, not}
use mathlib.Core.List.{List}
use Prim.Native.Nat.{ℕ, ◌≤◌, ◌<◌}
use native.Mathlib.Nat.{zero-add}
use native.Mathlib.Omega.{arith}
use lib.Dec.{eqb, ltb}
use lib.ListN.{length, get_or}
use borrow.Author.Tests.{lt-ltb, le-ltb, ltb-true, ltb-false, eq-eqb, ne_eqb}
use Rattle.tables.specs.Lists.{count_at, changed_from}
use Rattle.tables.specs.Sets.{claimed}
use Rattle.ownership.specs.Claim.{Claimant, known, fate, fate_at, entry_after, is_bound, is_rebound, claim}
use Rattle.ownership.specs.Owners.{ExactlyWhen, is_owner, is_unowned, ClaimLaws}
use Rattle.ownership.specs.declared.Fate.{Fate}
use Rattle.ownership.specs.declared.Fate.TheVariants.{Bound, Rebound, Stale, Stays}
use Rattle.tables.proofs.Walks.{length_mapped, mapped_at, counts_agree}

-- ---- the table by its places

module _ (c : Claimant) (m slots : List ℕ) where
  -- the table keeps its length
  pub length_kept : length (claim c m slots).slots ≡ length slots
  unfolding claim
  length_kept = length_mapped (λ s o. entry_after c (fate_at c m s o) o) 0 slots

  -- every entry by its fate
  pub entry : (s : ℕ) → s < length slots → get_or (claim c m slots).slots s 0 ≡ entry_after c (fate_at c m s (get_or slots s 0)) (get_or slots s 0)
  unfolding claim
  entry s h = mapped_at (λ k o. entry_after c (fate_at c m k o) o) 0 slots s 0 0 h ∙ rw (zero-add s)

  -- an entry that is not claimed stays as it was
  pub unclaimed_stays : (s : ℕ) → s < length slots → claimed m s ≡ false → get_or (claim c m slots).slots s 0 ≡ get_or slots s 0
  unclaimed_stays s h e = entry s h ∙ rw e

  -- an unowned slot goes to the sender if it is claimed
  pub unowned_goes : (s : ℕ) → s < length slots → c.size ≤ get_or slots s 0 → claimed m s ≡ true → get_or (claim c m slots).slots s 0 ≡ c.sender
  unfolding fate
  unowned_goes s h g e = entry s h ∙ rw (e, le-ltb (get_or slots s 0) c.size g)

  -- the sender's own stays
  own_stays : (s : ℕ) → s < length slots → get_or slots s 0 ≡ c.sender → get_or (claim c m slots).slots s 0 ≡ c.sender
  unfolding fate
  own_stays s h g = entry s h ∙ by (claimed m s) (ltb (get_or slots s 0) c.size) _
    where
      by : (b t : Bool) (φ : Fate) → entry_after c (cond b (cond t (cond (eqb (get_or slots s 0) c.sender) Stays φ) Bound) Stays) (get_or slots s 0) ≡ c.sender
      by true true φ = rw (eq-eqb (get_or slots s 0) c.sender g) g
      by true false φ = refl
      by false t φ = g

  -- ---- another node's slot passes to the sender exactly when the claim names it with a configEpoch above the owner's known one

  module _ (s : ℕ) (h : s < length slots) (listed : get_or slots s 0 < c.size) (another : get_or slots s 0 ≡ c.sender → ⊥) where
    abbrev owner : ℕ
    owner = get_or slots s 0

    passed : claimed m s ≡ true → known c owner < c.config → get_or (claim c m slots).slots s 0 ≡ c.sender
    unfolding fate
    passed e l = entry s h ∙ rw (e, lt-ltb owner c.size listed, ne_eqb owner c.sender another, lt-ltb (known c owner) c.config l)

    kept : (claimed m s ≡ true → c.config ≤ known c owner) → get_or (claim c m slots).slots s 0 ≡ owner
    unfolding fate
    kept f = entry s h ∙ by (claimed m s) refl
      where
        stale_or_not : (t : Bool) → entry_after c (cond t Stale Stays) owner ≡ owner
        stale_or_not true = refl
        stale_or_not false = refl

        by : (b : Bool) → claimed m s ≡ b → entry_after c (cond b (fate c owner) Stays) owner ≡ owner
        by true e = rw (lt-ltb owner c.size listed, ne_eqb owner c.sender another, le-ltb (known c owner) c.config (f e)) (stale_or_not (ltb c.config (known c owner)))
        by false e = refl

    pub passes_exactly_when : ExactlyWhen ((claimed m s ≡ true) × (known c owner < c.config)) (get_or (claim c m slots).slots s 0) c.sender owner
    passes_exactly_when = record {
      if = λ p. passed p.0 p.1;
      only_if = λ e. by (claimed m s) (ltb (known c owner) c.config) refl refl e;
      otherwise = λ f. kept (λ e. at_least (ltb (known c owner) c.config) refl (λ l. f (e, l)));
    }
      where
        at_least : (b : Bool) → ltb (known c owner) c.config ≡ b → (known c owner < c.config → ⊥) → c.config ≤ known c owner
        at_least true e f = absurd (f (ltb-true _ _ e))
        at_least false e f = ltb-false _ _ e

        never : {A : Type 0} → true ≡ false → A
        never q = let z : ◌≡◌ {A = ℕ} 0 1 = cc in absurd (omega arith)

        by : (b t : Bool) → claimed m s ≡ b → ltb (known c owner) c.config ≡ t → get_or (claim c m slots).slots s 0 ≡ c.sender → (claimed m s ≡ true) × (known c owner < c.config)
        by true true e l g = (e, ltb-true _ _ l)
        by true false e l g = absurd (another (sym (kept (λ q. ltb-false _ _ l)) ∙ g))
        by false t e l g = absurd (another (sym (kept (λ q. never (sym q ∙ e))) ∙ g))

-- ---- the counts: how many entries changed, from unowned and from another owner

-- what stays as it was has not changed
unchanged : (b : Bool) (x : ℕ) → false ≡ cond b (not (eqb x x)) false
unchanged true x = rw (eq-eqb x x refl)
unchanged false x = refl

module _ (c : Claimant) where
  -- a claimed entry by the tests of its fate, of which the second is whether it is the sender's
  bounds : c.sender < c.size → (b t l g : Bool) (x : ℕ) → b ≡ is_owner c x
      → let f = cond b (cond t Stays (cond l Rebound (cond g Stale Stays))) Bound in is_bound f ≡ cond (not b) (not (eqb x (entry_after c f x))) false
  bounds r true true l g x e = refl
  bounds r true false true g x e = refl
  bounds r true false false true x e = refl
  bounds r true false false false x e = refl
  bounds r false t l g x e = rw (ne_eqb x c.sender (λ q. omega (arith, ltb-false x c.size (sym e))))

  rebounds : (b t l g : Bool) (x : ℕ) → t ≡ eqb x c.sender
      → let f = cond b (cond t Stays (cond l Rebound (cond g Stale Stays))) Bound in is_rebound f ≡ cond b (not (eqb x (entry_after c f x))) false
  rebounds true true l g x e = rw (eq-eqb x x refl)
  rebounds true false true g x e = rw (← e)
  rebounds true false false true x e = rw (eq-eqb x x refl)
  rebounds true false false false x e = rw (eq-eqb x x refl)
  rebounds false t l g x e = refl

  bound_at : c.sender < c.size → (b : Bool) (x : ℕ) → is_bound (cond b (fate c x) Stays) ≡ cond (is_unowned c x) (not (eqb x (entry_after c (cond b (fate c x) Stays) x))) false
  unfolding fate
  bound_at r true x = bounds r (is_owner c x) (eqb x c.sender) (ltb (known c x) c.config) (ltb c.config (known c x)) x refl
  bound_at r false x = unchanged (is_unowned c x) x

  rebound_at : (b : Bool) (x : ℕ) → is_rebound (cond b (fate c x) Stays) ≡ cond (is_owner c x) (not (eqb x (entry_after c (cond b (fate c x) Stays) x))) false
  unfolding fate
  rebound_at true x = rebounds (is_owner c x) (eqb x c.sender) (ltb (known c x) c.config) (ltb c.config (known c x)) x refl
  rebound_at false x = unchanged (is_owner c x) x

  module _ (m slots : List ℕ) where
    -- a count by fates is a count of changes, where the two agree at each entry
    counted : (p : Fate → Bool) (such : ℕ → Bool) → ((b : Bool) (x : ℕ) → p (cond b (fate c x) Stays) ≡ cond (such x) (not (eqb x (entry_after c (cond b (fate c x) Stays) x))) false)
        → count_at (λ s o. p (fate_at c m s o)) slots ≡ changed_from such slots (claim c m slots).slots
    counted p such f = counts_agree _ _ 0 0 slots (λ k h. rw (zero-add k, entry c m slots k h) (f (claimed m k) (get_or slots k 0)))

    bound_counts : c.sender < c.size → (claim c m slots).tally.bound ≡ changed_from (is_unowned c) slots (claim c m slots).slots
    unfolding claim
    bound_counts r = counted is_bound (is_unowned c) (bound_at r)

    rebound_counts : (claim c m slots).tally.rebound ≡ changed_from (is_owner c) slots (claim c m slots).slots
    unfolding claim
    rebound_counts = counted is_rebound (is_owner c) rebound_at

-- ---- together

pub claim_laws : (c : Claimant) (bitmap slots : List ℕ) → ClaimLaws c bitmap slots
claim_laws c bitmap slots = record {
  long = length_kept c bitmap slots;
  unclaimed = unclaimed_stays c bitmap slots;
  unowned = unowned_goes c bitmap slots;
  own = own_stays c bitmap slots;
  another = passes_exactly_when c bitmap slots;
  bound = bound_counts c bitmap slots;
  rebound = rebound_counts c bitmap slots;
}
