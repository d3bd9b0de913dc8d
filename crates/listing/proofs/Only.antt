-- The words of document 02 fix the ranges: what is said of a list of ranges makes it fit the table, and only one list fits.
use mathlib.Core.Path.{◌≡◌, refl, sym, ap, ap₂, subst, ◌∙◌}
use mathlib.Core.Bool.{Bool, true, false}
use mathlib.Core.List.{List, [], ◌∷◌}
use Prim.Native.Nat.{ℕ, zero, suc, ◌+◌, ◌≤◌, ◌<◌}
use native.Mathlib.Omega.{arith}
use lib.Dec.{ltb}
use lib.ListN.{length, drop, get_or, drop_of_length-le}
use lib.Seq.{drop-cons}
use borrow.Author.Tests.{ltb-true, ltb-false}
use Rattle.listing.specs.Listing.{Range, range}
use Rattle.listing.specs.Laws.{StandsIn, ListsRanges}
use Rattle.listing.proofs.Fits.{Fit, Fits, entry_at}

-- ---- from the words to a fit

module _ (size : ℕ) (slots : List ℕ) (rs : List Range) (l : ListsRanges size slots rs) where
  abbrev entry : ℕ → ℕ
  entry = entry_at size slots

  abbrev at : ℕ → Range
  at i = get_or rs i (range 0 0 0)

  -- a slot of a range is owned, and by the range's owner
  within : (i s : ℕ) → StandsIn size slots rs s i → (entry s ≡ (at i).owner) × (entry s < size)
  within i s a = go (ltb (entry s) size) refl
    where
      h : s < length slots
      h = omega (arith, a.2, l.inside i a.0)

      go : (t : Bool) → ltb (entry s) size ≡ t → (entry s ≡ (at i).owner) × (entry s < size)
      go true q =
          let x = l.owned s h (ltb-true (entry s) size q) in
          (sym (ap (λ (k : ℕ). (at k).owner) (x.alone i a) ∙ x.owner's), ltb-true (entry s) size q)
      go false q = absurd (l.unowned s h (ltb-false (entry s) size q) i a)

  -- between the ranges before place k and that one nothing is owned
  between : (k lo : ℕ) → ((j : ℕ) → j < k → (at j).last < lo) → (s : ℕ) → lo ≤ s → s < length slots → (k < length rs → s < (at k).first) → size ≤ entry s
  between k lo before s a h b = go (ltb (entry s) size) refl
    where
      nowhere : (p : ℕ) → StandsIn size slots rs s p → (t : Bool) → ltb p k ≡ t → (u : Bool) → ltb k p ≡ u → ⊥
      nowhere p x true q u r = omega (arith, x.2, before p (ltb-true p k q))
      nowhere p x false q true r = omega (arith, x.0, x.1, ltb-true k p r, l.ascending k p (ltb-true k p r) x.0, l.not_empty k (omega (arith, x.0, ltb-true k p r)), b (omega (arith, x.0, ltb-true k p r)))
      nowhere p x false q false r =
          let e : p ≡ k = omega (arith, ltb-false p k q, ltb-false k p r) in
          let z : (at k).first ≤ s = rw (sym e) x.1 in
          omega (arith, z, b (omega (arith, x.0, e)))

      go : (t : Bool) → ltb (entry s) size ≡ t → size ≤ entry s
      go true q = let x = l.owned s h (ltb-true (entry s) size q) in absurd (nowhere x.place x.stands (ltb x.place k) refl (ltb k x.place) refl)
      go false q = ltb-false (entry s) size q

  -- the slot behind a range is another's
  ends : (i : ℕ) → i < length rs → suc (at i).last < length slots → entry (suc (at i).last) ≡ (at i).owner → ⊥
  ends i h b e =
      let last = (at i).last in
      let here : StandsIn size slots rs last i = (h, l.not_empty i h, omega arith) in
      let w = within i last here in
      let x = l.owned (suc last) b (let z : entry (suc last) < size = rw (e, sym w.0) w.1 in z) in
      let p = l.neighbours last b (w.0 ∙ sym e) i x.place here x.stands in
      let z : suc last ≤ last = subst (λ (k : ℕ). suc (at i).last ≤ (at k).last) (sym p) x.stands.2 in
      omega (arith, z)

  -- the ranges from place k on
  from : (d k lo : ℕ) → k + d ≡ length rs → ((j : ℕ) → j < k → (at j).last < lo) → (k < length rs → lo ≤ (at k).first) → Fits entry size lo (length slots) (drop k rs)
  from zero k lo e before low =
      subst (λ (xs : List Range). Fits entry size lo (length slots) xs) (sym (drop_of_length-le rs {i = k} (omega arith))) (λ s a b. between k lo before s a b (λ h. absurd (omega (arith, e, h))))
  from (suc d) k lo e before low =
      let h : k < length rs = omega arith in
      subst (λ (xs : List Range). Fits entry size lo (length slots) xs) (sym (drop-cons rs k (range 0 0 0) h)) (
        record {
          gap = λ s a b. between k lo before s a (omega (arith, b, l.not_empty k h, l.inside k h)) (λ g. b);
          low = low h;
          filled = l.not_empty k h;
          high = l.inside k h;
          whole = λ s a b. (within k s (h, a, b)).0;
          in_roster = let w = within k (at k).last (h, l.not_empty k h, omega arith) in rw (sym w.0) w.1;
          apart = ends k h;
        },
        from d (suc k) (suc (at k).last) (omega arith) (λ j g. further j g (ltb j k) refl) (λ g. l.ascending k (suc k) (omega arith) g),
      )
    where
      further : (j : ℕ) → j < suc k → (t : Bool) → ltb j k ≡ t → (at j).last < suc (at k).last
      further j g true q = omega (arith, before j (ltb-true j k q), low (omega arith), l.not_empty k (omega arith))
      further j g false q = let z : j ≡ k = omega (arith, ltb-false j k q) in rw z (omega arith)

  pub lists_fit : Fits entry size 0 (length slots) rs
  lists_fit = from (length rs) 0 0 (omega arith) (λ j h. absurd (omega arith)) (λ h. omega arith)

-- ---- only one list fits

module _ (size : ℕ) (slots : List ℕ) where
  abbrev Fitting : ℕ → Range → Type 0
  Fitting lo r = Fit (entry_at size slots) size lo (length slots) r

  module _ {lo : ℕ} {r r' : Range} (f : Fitting lo r) (f' : Fitting lo r') where
    -- neither begins before the other, nor goes on behind its end
    no_sooner : r'.first ≤ r.first
    no_sooner = go (ltb r.first r'.first) refl
      where
        go : (t : Bool) → ltb r.first r'.first ≡ t → r'.first ≤ r.first
        go true q = absurd (omega (arith, f'.gap r.first f.low (ltb-true r.first r'.first q), f.whole r.first (omega arith) f.filled, f.in_roster))
        go false q = ltb-false r.first r'.first q

    no_shorter : r.first ≡ r'.first → r'.last ≤ r.last
    no_shorter e = go (ltb r.last r'.last) refl
      where
        go : (t : Bool) → ltb r.last r'.last ≡ t → r'.last ≤ r.last
        go true q =
            let h = ltb-true r.last r'.last q in
            absurd (f.apart (omega (arith, h, f'.high))
            (f'.whole (suc r.last) (omega (arith, e, f.filled)) (omega (arith, h))
            ∙ sym (f'.whole r.first (omega (arith, e)) (omega (arith, e, f.filled, h)))
            ∙ f.whole r.first (omega arith) f.filled))
        go false q = ltb-false r.last r'.last q

  same : {lo : ℕ} {r r' : Range} → Fitting lo r → Fitting lo r' → r ≡ r'
  same {lo} {r} {r'} f f' =
      let e : r.first ≡ r'.first = omega (arith, no_sooner f f', no_sooner f' f) in
      let g : r.last ≡ r'.last = omega (arith, no_shorter f f' e, no_shorter f' f (sym e)) in
      let o : r.owner ≡ r'.owner = sym (f.whole r.first (omega arith) f.filled) ∙ f'.whole r.first (omega (arith, e)) (omega (arith, e, f'.filled)) in
      λ i. record { first = e i; last = g i; owner = o i }

  pub only_from : (lo : ℕ) (rs rs' : List Range) → Fits (entry_at size slots) size lo (length slots) rs → Fits (entry_at size slots) size lo (length slots) rs' → rs ≡ rs'
  only_from lo [] [] f f' = refl
  only_from lo [] (r ∷ rs) f f' = absurd (omega (arith, f r.first f'.0.low (omega (arith, f'.0.filled, f'.0.high)), f'.0.whole r.first (omega arith) f'.0.filled, f'.0.in_roster))
  only_from lo (r ∷ rs) [] f f' = absurd (omega (arith, f' r.first f.0.low (omega (arith, f.0.filled, f.0.high)), f.0.whole r.first (omega arith) f.0.filled, f.0.in_roster))
  only_from lo (r ∷ rs) (r' ∷ rs') f f' =
      let e = same f.0 f'.0 in
      ap₂ (λ (x : Range) (xs : List Range). x ∷ xs) e (only_from (suc r.last) rs rs' f.1 (subst (λ (x : Range). Fits (entry_at size slots) size (suc x.last) (length slots) rs') (sym e) f'.1))

  pub only : (rs rs' : List Range) → Fits (entry_at size slots) size 0 (length slots) rs → Fits (entry_at size slots) size 0 (length slots) rs' → rs ≡ rs'
  only rs rs' f f' = only_from 0 rs rs' f f'
