-- Ranges that fit the entries from one slot to before another: each is as long as its owner goes on, and what lies between
-- them is unowned. The ranges of a table do.
use mathlib.Core.Path.{◌≡◌, refl, sym, ap, subst, ◌∙◌}
use mathlib.Core.Bool.{Bool, true, false, cond}
use mathlib.Core.List.{List, [], ◌∷◌}
use Prim.Native.Nat.{ℕ, zero, suc, ◌+◌, ◌≤◌, ◌<◌}
use native.Mathlib.Omega.{arith}
use lib.Dec.{eqb, ltb}
use lib.ListN.{length, drop, get_or}
use lib.Seq.{drop-cons}
use borrow.Author.Tests.{eqb-true, eqb-false, ltb-true, ltb-false, eq-eqb}
use Rattle.tables.proofs.Checks.{part, never}
use Rattle.listing.specs.Listing.{Range, range, continues, joined, ranges_from, listing}
use Rattle.listing.proofs.Stretches.{owned, unowned, ended}

module _ (entry : ℕ → ℕ) (size : ℕ) where
  -- nobody owns a slot between the two
  abbrev Gap : ℕ → ℕ → Type 0
  Gap lo hi = (s : ℕ) → lo ≤ s → s < hi → size ≤ entry s

  pub record Fit (lo hi : ℕ) (r : Range) : Type 0 where
    pub gap : Gap lo r.first
    pub low : lo ≤ r.first
    pub filled : r.first ≤ r.last
    pub high : r.last < hi
    pub whole : (s : ℕ) → r.first ≤ s → s ≤ r.last → entry s ≡ r.owner
    pub in_roster : r.owner < size
    pub apart : suc r.last < hi → entry (suc r.last) ≡ r.owner → ⊥

  abbrev pub Fits : ℕ → ℕ → List Range → Type 0
  Fits lo hi [] = Gap lo hi
  Fits lo hi (r ∷ rs) = Fit lo hi r × Fits (suc r.last) hi rs

  -- ---- one slot more in front

  module _ (s hi : ℕ) (h : s < hi) where
    no_gap : Gap s s
    no_gap k a b = omega arith

    here : (k : ℕ) → s ≤ k → k ≤ s → entry k ≡ entry s
    here k a b = ap entry (let z : k ≡ s = omega arith in z)

    alone : (rs : List Range) → entry s < size → (suc s < hi → entry (suc s) ≡ entry s → ⊥) → Fits (suc s) hi rs → Fits s hi (range s s (entry s) ∷ rs)
    alone rs o a f = (record { gap = no_gap; low = omega arith; filled = omega arith; high = h; whole = here; in_roster = o; apart = a }, f)

    -- nobody's slot
    wider : (end : ℕ) → size ≤ entry s → Gap (suc s) end → Gap s end
    wider end o f k a b = go (eqb k s) refl
      where
        go : (t : Bool) → eqb k s ≡ t → size ≤ entry k
        go true q = rw (eqb-true k s q) o
        go false q = f k (let z : (k ≡ s → ⊥) = eqb-false k s q in omega arith) b

    nobody's : (rs : List Range) → size ≤ entry s → Fits (suc s) hi rs → Fits s hi rs
    nobody's [] o f = wider hi o f
    nobody's (r ∷ rs) o f =
        let x = f.0 in
        (record { gap = wider r.first o x.gap; low = omega (arith, x.low); filled = x.filled; high = x.high; whole = x.whole; in_roster = x.in_roster; apart = x.apart }, f.1)

    -- an owner's slot
    module _ (o : entry s < size) where
      -- the range behind it goes on
      on : (r : Range) (rs : List Range) → r.first ≡ suc s → r.owner ≡ entry s → Fits (suc s) hi (r ∷ rs) → Fits s hi (range s r.last (entry s) ∷ rs)
      on r rs a b f =
          let x = f.0 in (
            record {
              gap = no_gap;
              low = omega arith;
              filled = omega (arith, x.filled, a);
              high = x.high;
              whole = λ k c d. whole k c d (eqb k s) refl;
              in_roster = o;
              apart = λ c d. x.apart c (d ∙ sym b);
            },
            f.1,
          )
        where
          whole : (k : ℕ) → s ≤ k → k ≤ r.last → (t : Bool) → eqb k s ≡ t → entry k ≡ entry s
          whole k c d true q = ap entry (eqb-true k s q)
          whole k c d false q = f.0.whole k (let z : (k ≡ s → ⊥) = eqb-false k s q in omega (arith, a)) d ∙ b

      -- it does not, since it begins later or is another's
      off : (r : Range) (rs : List Range) → continues s (entry s) r ≡ false → Fits (suc s) hi (r ∷ rs) → suc s < hi → entry (suc s) ≡ entry s → ⊥
      off r rs q f c d = go (eqb r.first (suc s)) refl
        where
          go : (t : Bool) → eqb r.first (suc s) ≡ t → ⊥
          go true e =
              let first = eqb-true r.first (suc s) e in
              let same : entry (suc s) ≡ r.owner = f.0.whole (suc s) (omega arith) (omega (arith, f.0.filled)) in
              let goes : continues s (entry s) r ≡ true = rw (e, eq-eqb r.owner (entry s) (sym same ∙ d)) in
              never (sym goes ∙ q)
          go false e =
              let z : (r.first ≡ suc s → ⊥) = eqb-false r.first (suc s) e in
              let free : size ≤ entry (suc s) = f.0.gap (suc s) (omega arith) (omega (arith, f.0.low)) in
              omega (arith, d, free)

      somebody's : (rs : List Range) → Fits (suc s) hi rs → Fits s hi (joined s (entry s) rs)
      unfolding joined
      somebody's [] f = alone [] o (λ a b. omega (arith, f (suc s) (omega arith) a)) f
      somebody's (r ∷ rs) f = go (continues s (entry s) r) refl
        where
          go : (t : Bool) → continues s (entry s) r ≡ t → Fits s hi (cond t (range s r.last (entry s) ∷ rs) (range s s (entry s) ∷ r ∷ rs))
          go true q =
              let tests = eqb r.first (suc s) ∷ eqb r.owner (entry s) ∷ [] in
              on r rs (eqb-true _ _ (part 0 tests q)) (eqb-true _ _ (part 1 tests q)) f
          go false q = alone (r ∷ rs) o (off r rs q f) f

  -- ---- what follows of ranges that fit

  abbrev at : List Range → ℕ → Range
  at rs i = get_or rs i (range 0 0 0)

  abbrev pub In : List Range → ℕ → ℕ → Type 0
  In rs s i = (i < length rs) × ((at rs i).first ≤ s) × (s ≤ (at rs i).last)

  module _ (hi : ℕ) where
    -- each range by its place, the gap before it left out
    pub record Each (lo : ℕ) (r : Range) : Type 0 where
      pub low : lo ≤ r.first
      pub filled : r.first ≤ r.last
      pub high : r.last < hi
      pub whole : (s : ℕ) → r.first ≤ s → s ≤ r.last → entry s ≡ r.owner
      pub in_roster : r.owner < size
      pub apart : suc r.last < hi → entry (suc r.last) ≡ r.owner → ⊥

    pub each : (lo : ℕ) (rs : List Range) → Fits lo hi rs → (i : ℕ) → i < length rs → Each lo (at rs i)
    each lo [] f i h = absurd (omega arith)
    each lo (r ∷ rs) f zero h = let x = f.0 in record { low = x.low; filled = x.filled; high = x.high; whole = x.whole; in_roster = x.in_roster; apart = x.apart }
    each lo (r ∷ rs) f (suc i) h =
        let x = each (suc r.last) rs f.1 i (omega arith) in
        record { low = omega (arith, x.low, f.0.low, f.0.filled); filled = x.filled; high = x.high; whole = x.whole; in_roster = x.in_roster; apart = x.apart }

    pub ascending : (lo : ℕ) (rs : List Range) → Fits lo hi rs → (i j : ℕ) → i < j → j < length rs → (at rs i).last < (at rs j).first
    ascending lo [] f i j h k = absurd (omega arith)
    ascending lo (r ∷ rs) f i zero h k = absurd (omega arith)
    ascending lo (r ∷ rs) f zero (suc j) h k = (each (suc r.last) rs f.1 j (omega arith)).low
    ascending lo (r ∷ rs) f (suc i) (suc j) h k = ascending (suc r.last) rs f.1 i j (omega arith) (omega arith)

    -- an owned slot stands in one
    pub record Some (rs : List Range) (s : ℕ) : Type 0 where
      pub place : ℕ
      pub stands : In rs s place

    pub some : (lo : ℕ) (rs : List Range) → Fits lo hi rs → (s : ℕ) → lo ≤ s → s < hi → entry s < size → Some rs s
    some lo [] f s a b o = absurd (omega (arith, f s a b))
    some lo (r ∷ rs) f s a b o = go (ltb s r.first) refl (ltb r.last s) refl (λ c. some (suc r.last) rs f.1 s c b o)
      where
        go : (t : Bool) → ltb s r.first ≡ t → (u : Bool) → ltb r.last s ≡ u → (suc r.last ≤ s → Some rs s) → Some (r ∷ rs) s
        go true p u q next = absurd (omega (arith, f.0.gap s a (ltb-true s r.first p)))
        go false p true q next = let x = next (ltb-true r.last s q) in record { place = suc x.place; stands = (omega (arith, x.stands.0), x.stands.1, x.stands.2) }
        go false p false q next = record { place = 0; stands = (omega arith, ltb-false s r.first p, ltb-false r.last s q) }

-- ---- the ranges of a table fit it

module _ (size : ℕ) (slots : List ℕ) where
  abbrev pub entry_at : ℕ → ℕ
  entry_at s = get_or slots s 0

  -- from slot s on, of which d are left
  from : (d s : ℕ) → s + d ≡ length slots → Fits entry_at size s (length slots) (ranges_from size s (drop s slots))
  from zero s e = subst (λ (rs : List Range). Fits entry_at size s (length slots) rs) (sym (ended size slots s (omega arith))) (λ k a b. omega arith)
  from (suc d) s e =
      subst (λ (rs : List Range). Fits entry_at size s (length slots) rs) (ap (ranges_from size s) (sym (drop-cons slots s 0 (omega arith)))) (go (ltb (entry_at s) size) refl (from d (suc s) (omega arith)))
    where
      go : (t : Bool) → ltb (entry_at s) size ≡ t → Fits entry_at size (suc s) (length slots) (ranges_from size (suc s) (drop (suc s) slots))
          → Fits entry_at size s (length slots) (ranges_from size s (entry_at s ∷ drop (suc s) slots))
      go true q f =
          let o = ltb-true (entry_at s) size q in
          subst (λ (rs : List Range). Fits entry_at size s (length slots) rs) (sym (owned size s (entry_at s) (drop (suc s) slots) o)) (somebody's entry_at size s (length slots) (omega arith) o (ranges_from size (suc s) (drop (suc s) slots)) f)
      go false q f =
          let o = ltb-false (entry_at s) size q in
          subst (λ (rs : List Range). Fits entry_at size s (length slots) rs) (sym (unowned size s (entry_at s) (drop (suc s) slots) o)) (nobody's entry_at size s (length slots) (omega arith) (ranges_from size (suc s) (drop (suc s) slots)) o f)

  pub fits : Fits entry_at size 0 (length slots) (listing size slots)
  fits = from (length slots) 0 (omega arith)
