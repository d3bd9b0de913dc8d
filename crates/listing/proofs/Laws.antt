-- The laws of a listing, and of the list that it is written to.
use mathlib.Core.Path.{◌≡◌, refl, sym, ap, ◌∙◌}
use mathlib.Core.Bool.{Bool, true, false}
use mathlib.Core.List.{List, [], ◌∷◌, ◌++◌}
use Prim.Native.Nat.{ℕ, zero, suc, ◌+◌, ◌-◌, ◌*◌, ◌≤◌, ◌<◌}
use native.Mathlib.Omega.{arith}
use lib.Dec.{eqb, ltb}
use lib.ListN.{length, get_or, drop, length-append, length-drop}
use lib.Seq.{get_or-drop, get_or-append-add}
use borrow.Author.Tests.{eqb-true, ltb-true, ltb-false, eq-eqb, le-ltb}
use Rattle.tables.specs.Sizes.{slot_count}
use Rattle.answers.specs.Answers.{number}
use Rattle.answers.specs.declared.Answer.TheVariants.{Listed}
use Rattle.listing.specs.Listing.{Range, range, listing, flat, laid, ListAfter, lists, entered}
use Rattle.listing.specs.Laws.{StandsIn, StandsInOne, ListsRanges, ListingLaws, ListLaws, AnswerLaws}
use Rattle.listing.proofs.Stretches.{few}
use Rattle.listing.proofs.Only.{only, lists_fit}
use Rattle.listing.proofs.Fits.{Each, each, ascending, some, fits, entry_at}

module _ (size : ℕ) (slots : List ℕ) where
  abbrev at : ℕ → Range
  at i = get_or (listing size slots) i (range 0 0 0)

  range_at : (i : ℕ) → i < length (listing size slots) → Each (entry_at size slots) size (length slots) 0 (at i)
  range_at i h = each (entry_at size slots) size (length slots) 0 (listing size slots) (fits size slots) i h

  in_order : (i j : ℕ) → i < j → j < length (listing size slots) → (at i).last < (at j).first
  in_order i j h k = ascending (entry_at size slots) size (length slots) 0 (listing size slots) (fits size slots) i j h k

  -- a slot that stands in two ranges stands in one
  one : (s i j : ℕ) → StandsIn size slots (listing size slots) s i → StandsIn size slots (listing size slots) s j → i ≡ j
  one s i j a b = go (ltb i j) refl (ltb j i) refl
    where
      go : (t : Bool) → ltb i j ≡ t → (u : Bool) → ltb j i ≡ u → i ≡ j
      go true p u q = absurd (omega (arith, a.2, b.1, in_order i j (ltb-true i j p) b.0))
      go false p true q = absurd (omega (arith, b.2, a.1, in_order j i (ltb-true j i q) a.0))
      go false p false q = omega (arith, ltb-false i j p, ltb-false j i q)

  whose : (s i : ℕ) → StandsIn size slots (listing size slots) s i → get_or slots s 0 ≡ (at i).owner
  whose s i a = (range_at i a.0).whole s a.1 a.2

  stands_in_one : (s : ℕ) → s < length slots → get_or slots s 0 < size → StandsInOne size slots (listing size slots) s
  stands_in_one s h o =
      let x = some (entry_at size slots) size (length slots) 0 (listing size slots) (fits size slots) s (omega arith) h o in
      record { place = x.place; stands = x.stands; owner's = sym (whose s x.place x.stands); alone = λ i a. one s i x.place a x.stands }

  -- the next slot of the same owner stands in the same range
  next : (s i : ℕ) → suc s < length slots → get_or slots s 0 ≡ get_or slots (suc s) 0 → StandsIn size slots (listing size slots) s i → StandsIn size slots (listing size slots) (suc s) i
  next s i h e a = (a.0, omega (arith, a.1), go (ltb s (at i).last) refl)
    where
      go : (t : Bool) → ltb s (at i).last ≡ t → suc s ≤ (at i).last
      go true q = ltb-true s (at i).last q
      go false q =
          let z : (at i).last ≡ s = omega (arith, a.2, ltb-false s (at i).last q) in
          absurd ((range_at i a.0).apart (omega (arith, z, h)) (ap (λ (k : ℕ). get_or slots (suc k) 0) z ∙ sym e ∙ whose s i a))

  lists_ranges : ListsRanges size slots (listing size slots)
  lists_ranges = record {
    owned = stands_in_one;
    unowned = λ s h o i a. omega (arith, o, whose s i a, (range_at i a.0).in_roster);
    neighbours = λ s h e i j a b. one (suc s) i j (next s i h e a) b;
    ascending = in_order;
    not_empty = λ i h. (range_at i h).filled;
    inside = λ i h. (range_at i h).high;
  }

  pub listing_laws : ListingLaws size slots
  listing_laws = record {
    listing's = lists_ranges;
    only = λ rs l. only size slots rs (listing size slots) (lists_fit size slots rs l) (fits size slots);
    few = few size 0 slots;
  }

-- ---- the list

pub three_a_range : (rs : List Range) → length (flat rs) ≡ 3 * length rs
unfolding flat
three_a_range [] = refl
three_a_range (r ∷ rs) = omega (arith, three_a_range rs)

-- the numbers of a range, by its place
abbrev Numbers : List ℕ → ℕ → Range → Type 0
Numbers l k r = (get_or l k 0 ≡ r.first) × (get_or l (k + 1) 0 ≡ r.last) × (get_or l (k + 2) 0 ≡ r.owner)

numbers : (rs : List Range) (tail : List ℕ) (i : ℕ) → i < length rs → Numbers (flat rs ++ tail) (3 * i) (get_or rs i (range 0 0 0))
unfolding flat
numbers [] tail i h = absurd (omega arith)
numbers (r ∷ rs) tail zero h = (refl, refl, refl)
numbers (r ∷ rs) tail (suc i) h =
    let e : 3 * suc i ≡ suc (suc (suc (3 * i))) = omega arith in
    let f : 3 * suc i + 1 ≡ suc (suc (suc (3 * i + 1))) = omega arith in
    let g : 3 * suc i + 2 ≡ suc (suc (suc (3 * i + 2))) = omega arith in
    rw (f, g, e) (numbers rs tail i (omega arith))

module _ (rs : List Range) (list : List ℕ) (h : 3 * length rs ≤ length list) where
  past : (k : ℕ) → 3 * length rs ≤ k → get_or (laid rs list) k 0 ≡ get_or list k 0
  past k le =
      let d : ℕ = k - 3 * length rs in
      let e : k ≡ length (flat rs) + d = omega (arith, three_a_range rs) in
      let f : 3 * length rs + d ≡ k = omega arith in
      ap (λ (j : ℕ). get_or (laid rs list) j 0) e ∙ get_or-append-add (flat rs) (drop (3 * length rs) list) d 0 ∙ get_or-drop (3 * length rs) list d 0 ∙ ap (λ (j : ℕ). get_or list j 0) f

  long : length (laid rs list) ≡ length list
  long = length-append (flat rs) (drop (3 * length rs) list) ∙ omega (arith, three_a_range rs, length-drop (3 * length rs) list)

module _ (size : ℕ) (slots list : List ℕ) where
  abbrev ranges : List Range
  ranges = listing size slots

  -- past both checks the ranges are laid
  module _ (l : length slots ≡ slot_count) (h : 3 * length ranges ≤ length list) where
    taken : lists size slots list ≡ record { answer = Listed (length ranges); list = laid ranges list }
    unfolding lists entered
    taken = rw (eq-eqb (length slots) slot_count l, le-ltb (length list) (3 * length ranges) h)

    list_after : (lists size slots list).list ≡ laid ranges list
    list_after = ap (λ (o : ListAfter). o.list) taken

    numbers_after : (i : ℕ) → i < length ranges → Numbers (lists size slots list).list (3 * i) (get_or ranges i (range 0 0 0))
    numbers_after i k = rw list_after (numbers ranges (drop (3 * length ranges) list) i k)

    written : ListLaws size slots list
    written = record {
      first = λ i k. (numbers_after i k).0;
      last = λ i k. (numbers_after i k).1;
      owner = λ i k. (numbers_after i k).2;
      past = λ k le. ap (λ (l : List ℕ). get_or l k 0) list_after ∙ past ranges list h k le;
      long = ap length list_after ∙ long ranges list h;
    }

  -- what a listing comes to: a refusal, or all is well
  data Came : Type 0 where
    refused : (number (lists size slots list).answer ≡ 0 → ⊥) → (lists size slots list).list ≡ list → Came
    done : length slots ≡ slot_count → 3 * length ranges ≤ length list → Came

  came : Came
  unfolding lists entered
  came = go (eqb (length slots) slot_count) refl (ltb (length list) (3 * length ranges)) refl
    where
      go : (t : Bool) → eqb (length slots) slot_count ≡ t → (u : Bool) → ltb (length list) (3 * length ranges) ≡ u → Came
      go false p u q = refused (rw p (λ e. omega arith)) (rw p)
      go true p true q = refused (rw (p, q) (λ e. omega arith)) (rw (p, q))
      go true p false q = done (eqb-true (length slots) slot_count p) (ltb-false (length list) (3 * length ranges) q)

  pub answer_laws : AnswerLaws size slots list
  answer_laws = record {
    done = done_so came;
    refused = refused_so came;
    enough = λ l k. ap (λ (o : ListAfter). o.answer) (taken l (omega (arith, few size 0 slots, l, k)));
  }
    where
      done_so : Came → number (lists size slots list).answer ≡ 0 → ((lists size slots list).answer ≡ Listed (length (listing size slots))) × ListLaws size slots list
      done_so (refused n e) z = absurd (n z)
      done_so (done l h) z = (ap (λ (o : ListAfter). o.answer) (taken l h), written l h)

      refused_so : Came → (number (lists size slots list).answer ≡ 0 → ⊥) → (lists size slots list).list ≡ list
      refused_so (refused n e) z = e
      refused_so (done l h) z = absurd (z (ap (λ (o : ListAfter). number o.answer) (taken l h)))
