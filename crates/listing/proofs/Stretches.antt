-- The ranges by the stretches of a table: what its first entry and those like it come to.
use mathlib.Core.Path.{◌≡◌, refl, sym, ap, ap₂, subst, ◌∙◌}
use mathlib.Core.Bool.{Bool, true, false, not, cond}
use mathlib.Core.List.{List, [], ◌∷◌}
use Prim.Native.Nat.{ℕ, suc, ◌+◌, ◌-◌, ◌≤◌, ◌<◌}
use native.Mathlib.Nat.{zero-add, add-zero, add-suc, suc-add}
use native.Mathlib.Numerals.{add-one}
use native.Mathlib.Omega.{arith}
use lib.Dec.{eqb, ltb}
use lib.ListN.{length, drop, get_or, length-drop, drop_of_length-le}
use lib.Seq.{drop-cons, drop-drop}
use borrow.Author.Tests.{eqb-true, eqb-false, ltb-true, ltb-false, eq-eqb, ne_eqb, lt-ltb, le-ltb}
use Rattle.tables.proofs.Checks.{fails}
use Rattle.listing.specs.Listing.{Range, range, continues, joined, ranges_from}
use Rattle.listing.specs.Stretches.{alike, is_end, one}

-- ---- entries that are alike

most : (owner : ℕ) (xs : List ℕ) → alike owner xs ≤ length xs
unfolding alike
most owner [] = omega arith
most owner (x ∷ xs) = go (eqb x owner) (most owner xs)
  where
    go : (b : Bool) → alike owner xs ≤ length xs → cond b (suc (alike owner xs)) 0 ≤ length (x ∷ xs)
    go true h = omega arith
    go false h = omega arith

-- by a loop that has come to place i

module _ (owner : ℕ) (slots : List ℕ) (i : ℕ) where
  pub alike_here : i < length slots → eqb (get_or slots i 0) owner ≡ false → i ≡ i + alike owner (drop i slots)
  unfolding alike
  alike_here h e = rw (drop-cons slots i 0 h, e, add-zero)

  pub alike_past : i < length slots → eqb (get_or slots i 0) owner ≡ true → i + 1 + alike owner (drop (i + 1) slots) ≡ i + alike owner (drop i slots)
  unfolding alike
  alike_past h e = rw (add-one i, drop-cons slots i 0 h, e) (omega arith)

  pub alike_ended : length slots ≤ i → i ≡ i + alike owner (drop i slots)
  unfolding alike
  alike_ended h = rw (drop_of_length-le slots h, add-zero)

  -- no more than there are
  pub alike_most : i ≤ length slots → i + alike owner (drop i slots) ≤ length slots
  alike_most h = omega (arith, most owner (drop i slots), length-drop i slots)

-- ---- where ranges begin

-- the first range, if there is one, begins at that slot or behind it
abbrev Later : ℕ → List Range → Type 0
Later s [] = Unit {0}
Later s (r ∷ rs) = s ≤ r.first

-- it begins at that slot and has that owner
abbrev Begins : ℕ → ℕ → List Range → Type 0
Begins s o [] = ⊥
Begins s o (r ∷ rs) = (r.first ≡ s) × (r.owner ≡ o)

begins : (s o : ℕ) (rs : List Range) → Begins s o (joined s o rs)
unfolding joined
begins s o [] = (refl, refl)
begins s o (r ∷ rs) = go (continues s o r)
  where
    go : (t : Bool) → Begins s o (cond t (range s r.last o ∷ rs) (range s s o ∷ r ∷ rs))
    go true = (refl, refl)
    go false = (refl, refl)

sooner : (s : ℕ) (rs : List Range) → Later (suc s) rs → Later s rs
sooner s [] h = tt
sooner s (r ∷ rs) h = omega arith

at_once : (s o : ℕ) (rs : List Range) → Begins s o rs → Later s rs
at_once s o [] b = tt
at_once s o (r ∷ rs) b = omega (arith, b.0)

later : (size s : ℕ) (xs : List ℕ) → Later s (ranges_from size s xs)
unfolding ranges_from
later size s [] = tt
later size s (x ∷ xs) = go (ltb x size) (later size (suc s) xs)
  where
    go : (t : Bool) → Later (suc s) (ranges_from size (suc s) xs) → Later s (cond t (joined s x (ranges_from size (suc s) xs)) (ranges_from size (suc s) xs))
    go true h = at_once s x (joined s x (ranges_from size (suc s) xs)) (begins s x (ranges_from size (suc s) xs))
    go false h = sooner s (ranges_from size (suc s) xs) h

-- ---- a slot in front of ranges that do not go on, or do

apart_by_slot : (s o : ℕ) (rs : List Range) → Later (suc (suc s)) rs → joined s o rs ≡ range s s o ∷ rs
unfolding joined
apart_by_slot s o [] h = refl
apart_by_slot s o (r ∷ rs) h = rw (ne_eqb r.first (suc s) (λ e. omega (arith, e)))

apart_by_owner : (s o t p : ℕ) (rs : List Range) → Begins t p rs → (p ≡ o → ⊥) → joined s o rs ≡ range s s o ∷ rs
unfolding joined
apart_by_owner s o t p [] b h = absurd b
apart_by_owner s o t p (r ∷ rs) b h = rw (← fails 1 (eqb r.first (suc s) ∷ eqb r.owner o ∷ []) (ne_eqb r.owner o (λ e. h (sym b.1 ∙ e))))

-- the slots behind it begin with another entry, or there are none
apart : (size s o : ℕ) (xs : List ℕ) → alike o xs ≡ 0 → joined s o (ranges_from size (suc s) xs) ≡ range s s o ∷ ranges_from size (suc s) xs
unfolding alike ranges_from joined
apart size s o [] e = refl
apart size s o (x ∷ xs) e = go (eqb x o) refl e
  where
    listed : (t : Bool) → (x ≡ o → ⊥) → joined s o (cond t (joined (suc s) x (ranges_from size (suc (suc s)) xs)) (ranges_from size (suc (suc s)) xs)) ≡ range s s o ∷ cond t (joined (suc s) x (ranges_from size (suc (suc s)) xs)) (ranges_from size (suc (suc s)) xs)
    listed true h = apart_by_owner s o (suc s) x _ (begins (suc s) x (ranges_from size (suc (suc s)) xs)) h
    listed false h = apart_by_slot s o _ (later size (suc (suc s)) xs)

    go : (b : Bool) → eqb x o ≡ b → cond b (suc (alike o xs)) 0 ≡ 0 → joined s o (ranges_from size (suc s) (x ∷ xs)) ≡ range s s o ∷ ranges_from size (suc s) (x ∷ xs)
    go true q e = absurd (omega (arith, e))
    go false q e = listed (ltb x size) (eqb-false x o q)

-- ---- the first entry

module _ (size s o : ℕ) (xs : List ℕ) where
  pub owned : o < size → ranges_from size s (o ∷ xs) ≡ joined s o (ranges_from size (suc s) xs)
  unfolding ranges_from
  owned h = rw (lt-ltb o size h)

  pub unowned : size ≤ o → ranges_from size s (o ∷ xs) ≡ ranges_from size (suc s) xs
  unfolding ranges_from
  unowned h = rw (le-ltb o size h)

joins : (s o last : ℕ) (rs : List Range) → joined s o (range (suc s) last o ∷ rs) ≡ range s last o ∷ rs
unfolding joined
joins s o last rs = rw (eq-eqb (suc s) (suc s) refl, eq-eqb o o refl)

none : (size s : ℕ) → ranges_from size s [] ≡ []
unfolding ranges_from
none size s = refl

-- ---- the first entry, and those like it

-- what they are, by how many are like the first
abbrev Stretch : ℕ → ℕ → ℕ → List ℕ → ℕ → Type 0
Stretch size s o xs n = ranges_from size s (o ∷ xs) ≡ range s (s + n) o ∷ ranges_from size (suc s + n) (drop n xs)

abbrev Passed : ℕ → ℕ → ℕ → List ℕ → ℕ → Type 0
Passed size s o xs n = ranges_from size s (o ∷ xs) ≡ ranges_from size (suc s + n) (drop n xs)

-- one range
pub stretch : (size s o : ℕ) (xs : List ℕ) → o < size → Stretch size s o xs (alike o xs)
unfolding alike
stretch size s o [] h = owned size s o [] h ∙ apart size s o [] refl ∙ rw (add-zero s, none, none)
stretch size s o (x ∷ xs) h = go (eqb x o) refl (stretch size (suc s) o xs h)
  where
    go : (b : Bool) → eqb x o ≡ b → Stretch size (suc s) o xs (alike o xs) → Stretch size s o (x ∷ xs) (cond b (suc (alike o xs)) 0)
    go true q e =
        owned size s o (x ∷ xs) h
        ∙ ap (λ (y : ℕ). joined s o (ranges_from size (suc s) (y ∷ xs))) (eqb-true x o q)
        ∙ ap (joined s o) e
        ∙ joins s o (suc s + alike o xs) (ranges_from size (suc (suc s) + alike o xs) (drop (alike o xs) xs))
        ∙ sym (ap₂ (λ (n m : ℕ). range s n o ∷ ranges_from size m (drop (alike o xs) xs)) (add-suc s (alike o xs) ∙ sym (suc-add s (alike o xs))) (add-suc (suc s) (alike o xs) ∙ sym (suc-add (suc s) (alike o xs))))
    go false q e = owned size s o (x ∷ xs) h ∙ apart size s o (x ∷ xs) (rw q) ∙ rw (add-zero s, add-zero (suc s))

-- or none
pub passed : (size s o : ℕ) (xs : List ℕ) → size ≤ o → Passed size s o xs (alike o xs)
unfolding alike
passed size s o [] h = unowned size s o [] h ∙ rw (none, none)
passed size s o (x ∷ xs) h = go (eqb x o) refl (passed size (suc s) o xs h)
  where
    go : (b : Bool) → eqb x o ≡ b → Passed size (suc s) o xs (alike o xs) → Passed size s o (x ∷ xs) (cond b (suc (alike o xs)) 0)
    go true q e = unowned size s o (x ∷ xs) h ∙ ap (λ (y : ℕ). ranges_from size (suc s) (y ∷ xs)) (eqb-true x o q) ∙ e ∙ rw (suc-add, add-suc)
    go false q e = unowned size s o (x ∷ xs) h ∙ rw (add-zero (suc s))

-- ---- how many ranges

one_more : (s o : ℕ) (rs : List Range) → length (joined s o rs) ≤ suc (length rs)
unfolding joined
one_more s o [] = omega arith
one_more s o (r ∷ rs) = go (continues s o r)
  where
    go : (t : Bool) → length (cond t (range s r.last o ∷ rs) (range s s o ∷ r ∷ rs)) ≤ suc (suc (length rs))
    go true = omega arith
    go false = omega arith

goes_on : (s o : ℕ) (rs : List Range) → Begins (suc s) o rs → length (joined s o rs) ≡ length rs
unfolding joined
goes_on s o [] b = absurd b
goes_on s o (r ∷ rs) b = rw (eq-eqb _ _ b.0, eq-eqb _ _ b.1)

-- at most as many as there are slots
pub few : (size s : ℕ) (xs : List ℕ) → length (ranges_from size s xs) ≤ length xs
unfolding ranges_from
few size s [] = omega arith
few size s (x ∷ xs) = go (ltb x size) (few size (suc s) xs)
  where
    go : (t : Bool) → length (ranges_from size (suc s) xs) ≤ length xs → length (cond t (joined s x (ranges_from size (suc s) xs)) (ranges_from size (suc s) xs)) ≤ suc (length xs)
    go true h = omega (arith, one_more s x (ranges_from size (suc s) xs))
    go false h = omega arith

-- a slot brings one more if it ends one
pub counted : (size s x y : ℕ) (xs : List ℕ) → length (ranges_from size s (x ∷ y ∷ xs)) ≡ one (is_end size x y) + length (ranges_from size (suc s) (y ∷ xs))
unfolding alike
counted size s x y xs = listed (ltb x size) refl
  where
    same : (b : Bool) → eqb x y ≡ b → x < size → length (ranges_from size s (x ∷ y ∷ xs)) ≡ one (not b) + length (ranges_from size (suc s) (y ∷ xs))
    same true q h =
        let e = eqb-true x y q in
        ap length (owned size s x (y ∷ xs) h)
        ∙ ap length (ap (λ (z : ℕ). joined s x (ranges_from size (suc s) (z ∷ xs))) (sym e))
        ∙ goes_on s x (ranges_from size (suc s) (x ∷ xs)) (subst (λ (rs : List Range). Begins (suc s) x rs) (sym (owned size (suc s) x xs h)) (begins (suc s) x (ranges_from size (suc (suc s)) xs)))
        ∙ ap (λ (z : ℕ). length (ranges_from size (suc s) (z ∷ xs))) e
        ∙ sym (zero-add _)
    same false q h = ap length (owned size s x (y ∷ xs) h ∙ apart size s x (y ∷ xs) (rw (ne_eqb y x (λ e. eqb-false x y q (sym e))))) ∙ omega arith

    listed : (t : Bool) → ltb x size ≡ t → length (ranges_from size s (x ∷ y ∷ xs)) ≡ one (cond t (not (eqb x y)) false) + length (ranges_from size (suc s) (y ∷ xs))
    listed true q = same (eqb x y) refl (ltb-true x size q)
    listed false q = ap length (unowned size s x (y ∷ xs) (ltb-false x size q)) ∙ sym (zero-add _)

-- the last one, if it is owned
pub counted_last : (size s x : ℕ) → length (ranges_from size s (x ∷ [])) ≡ one (ltb x size)
unfolding alike
counted_last size s x = go (ltb x size) refl
  where
    go : (t : Bool) → ltb x size ≡ t → length (ranges_from size s (x ∷ [])) ≡ one t
    go true q = ap length (owned size s x [] (ltb-true x size q) ∙ apart size s x [] refl ∙ ap (λ (rs : List Range). range s s x ∷ rs) (none size (suc s)))
    go false q = ap length (unowned size s x [] (ltb-false x size q) ∙ none size (suc s))

-- ---- a loop that has counted n and come to slot s

module _ (size : ℕ) (slots : List ℕ) (s n : ℕ) where
  pub counting : s + 1 < length slots → n + one (is_end size (get_or slots s 0) (get_or slots (s + 1) 0)) + length (ranges_from size (s + 1) (drop (s + 1) slots)) ≡ n + length (ranges_from size s (drop s slots))
  counting h =
      let x = get_or slots s 0 in
      let y = get_or slots (suc s) 0 in
      let rest = drop (suc (suc s)) slots in
      rw (add-one s, drop-cons slots s 0 (omega arith), drop-cons slots (suc s) 0 (omega arith)) (omega (arith, counted size s x y rest))

  pub counting_last : length slots ≡ s + 1 → n + one (ltb (get_or slots s 0) size) ≡ n + length (ranges_from size s (drop s slots))
  counting_last h =
      rw (drop-cons slots s 0 (omega arith), drop_of_length-le slots {i = suc s} (omega arith)) (omega (arith, counted_last size s (get_or slots s 0)))

-- ---- a loop that has come to slot s, whose stretch ends before slot e

module _ (slots : List ℕ) (s e : ℕ) (h : s < length slots) (ends : e ≡ s + 1 + alike (get_or slots s 0) (drop (s + 1) slots)) where
  pub ahead : s < e
  ahead = omega (arith, ends)

  pub inside : e ≤ length slots
  inside = omega (arith, ends, alike_most (get_or slots s 0) slots (s + 1) (omega arith))

  abbrev owner : ℕ
  owner = get_or slots s 0

  abbrev behind : List ℕ
  behind = drop (suc s) slots

  end : suc s + alike owner behind ≡ e
  end = sym (ends ∙ ap (λ (k : ℕ). k + alike owner (drop k slots)) (add-one s))

  rest : drop (alike owner behind) behind ≡ drop e slots
  rest = drop-drop (alike owner behind) (suc s) slots ∙ ap (λ (k : ℕ). drop k slots) end

  -- an owner's stretch is a range
  pub one_range : (size : ℕ) → owner < size → ranges_from size s (drop s slots) ≡ range s (e - 1) owner ∷ ranges_from size e (drop e slots)
  one_range size o =
      let last : s + alike owner behind ≡ e - 1 = omega (arith, end) in
      ap (ranges_from size s) (drop-cons slots s 0 h)
      ∙ stretch size s owner behind o
      ∙ ap₂ (λ (k : ℕ) (rs : List Range). range s k owner ∷ rs) last (ap₂ (ranges_from size) end rest)

  -- any other is none
  pub no_range : (size : ℕ) → size ≤ owner → ranges_from size s (drop s slots) ≡ ranges_from size e (drop e slots)
  no_range size o = ap (ranges_from size s) (drop-cons slots s 0 h) ∙ passed size s owner behind o ∙ ap₂ (ranges_from size) end rest

-- behind the last slot there is none
pub ended : (size : ℕ) (slots : List ℕ) (s : ℕ) → length slots ≤ s → ranges_from size s (drop s slots) ≡ []
ended size slots s h = ap (ranges_from size s) (drop_of_length-le slots h) ∙ none size s
