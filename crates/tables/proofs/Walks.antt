-- Laws of loops over a table from the front: what is done is its front, what is left is made of the rest.
use Rattle.std.specs.Prelude.{None, Option, Some, position}
use Rattle.std.specs.List.{list_any, position_from}
use Rattle.std.specs.Simd.{first_chunks}
use Rattle.std.proofs.lemmas.Iterator.Adapters.{position_from-zero}
use mathlib.Core.Path.{◌≡◌, refl, sym, ap, ◌∙◌}
use mathlib.Core.Bool.{Bool, true, false, ◌||◌, cond, or_assoc}
use mathlib.Core.List.{List, [], ◌∷◌, ◌++◌, append-nil}
use Prim.Native.Nat.{ℕ, zero, suc, ◌+◌, ◌*◌, ◌≤◌, ◌<◌}
use native.Mathlib.Nat.{add-zero, add-suc, suc-add, le_of_suc-le-suc, not-suc-le-zero}
use native.Mathlib.Numerals.{add-one}
use native.Mathlib.Omega.{arith}
use lib.Dec.{eqb}
use lib.ListN.{length, take, drop, get_or, set, drop_of_length-le, take-append-drop}
use lib.Seq.{drop-cons, drop-drop, take-suc, take-suc-set, drop-set-lt, take_all, append_snoc}
use borrow.Author.Tests.{eqb-true, eq-eqb}
use Rattle.tables.specs.Lists.{map_from, count_from, first_from, first_at, is_found, occurs}
use Rattle.tables.proofs.Checks.{never}

-- ---- a turn at place s: the list l became m, v at s

pub record Turn {A : Type 0} (l m : List A) (s : ℕ) (v : A) : Type 0 where
  pub front : take (s + 1) m ≡ take s l ++ v ∷ []
  pub rest : drop (s + 1) m ≡ drop (s + 1) l

module _ {A : Type 0} (l : List A) (s : ℕ) (h : s < length l) where
  pub stored : (v : A) → Turn l (set l s v) s v
  stored v = let k : s < suc s = omega arith in record {
    front = rw (add-one s) (take-suc-set l s v h);
    rest = rw (add-one s) (drop-set-lt (suc s) l s v k);
  }

  pub kept : (d : A) → Turn l l s (get_or l s d)
  kept d = record { front = rw (add-one s) (take-suc l s d h); rest = refl }

module _ {A : Type 0} {l m : List A} {s : ℕ} {v : A} (d : A) (h : s < length l) (t : Turn l m s v) where
  -- the table: its front is done, its rest is to be mapped
  pub map_turn : (f : ℕ → A → A) → f s (get_or l s d) ≡ v → take s l ++ map_from f s (drop s l) ≡ take (s + 1) m ++ map_from f (s + 1) (drop (s + 1) m)
  unfolding map_from
  map_turn f e = rw (t.front, t.rest, add-one s, drop-cons l s d h, append_snoc, ← e)

  -- a count: what was counted, and what the rest comes to
  pub count_hit : (p : ℕ → A → Bool) (n : ℕ) → p s (get_or l s d) ≡ true → n + count_from p s (drop s l) ≡ n + 1 + count_from p (s + 1) (drop (s + 1) m)
  unfolding count_from
  count_hit p n e = rw (t.rest, add-one s, drop-cons l s d h, count_from, e) (omega arith)

  pub count_miss : (p : ℕ → A → Bool) (n : ℕ) → p s (get_or l s d) ≡ false → n + count_from p s (drop s l) ≡ n + count_from p (s + 1) (drop (s + 1) m)
  unfolding count_from
  count_miss p n e = rw (t.rest, add-one s, drop-cons l s d h, count_from, e)

  -- a search: what the rest finds
  pub first_hit : (p : ℕ → A → Bool) → p s (get_or l s d) ≡ true → first_from p s (drop s l) ≡ Some s
  unfolding first_from
  first_hit p e = rw (drop-cons l s d h, first_from, e)

  pub first_miss : (p : ℕ → A → Bool) → p s (get_or l s d) ≡ false → first_from p s (drop s l) ≡ first_from p (s + 1) (drop (s + 1) m)
  unfolding first_from
  first_miss p e = rw (t.rest, add-one s, drop-cons l s d h, first_from, e)

-- ---- a stretch of places, none of which changes a value

pub stretch : {A : Type 0} (f : ℕ → A) (s n : ℕ) → ((k : ℕ) → s ≤ k → k < s + n → f k ≡ f (k + 1)) → f s ≡ f (s + n)
stretch f s zero e = rw (add-zero s)
stretch f s (suc n) e = let a : s + 1 + n ≡ s + suc n = omega arith in e s (omega arith) (omega arith) ∙ rw a at (stretch f (s + 1) n (λ k h g. e k (omega arith) (omega arith)))

-- ---- a rest in which nothing changes, nothing counts and nothing is found

pub map_kept : {A : Type 0} (f : ℕ → A → A) (i : ℕ) (l : List A) → ((k : ℕ) (x : A) → i ≤ k → k < i + length l → f k x ≡ x) → map_from f i l ≡ l
unfolding map_from
map_kept f i [] e = refl
map_kept f i (x ∷ l) e = rw (e i x (omega arith) (omega arith), map_kept f (suc i) l (λ k y h g. e k y (omega arith) (omega arith)))

pub count_none : {A : Type 0} (p : ℕ → A → Bool) (i : ℕ) (l : List A) → ((k : ℕ) (x : A) → i ≤ k → k < i + length l → p k x ≡ false) → count_from p i l ≡ 0
unfolding count_from
count_none p i [] e = refl
count_none p i (x ∷ l) e = rw (e i x (omega arith) (omega arith)) (count_none p (suc i) l (λ k y h g. e k y (omega arith) (omega arith)))

pub first_none : {A : Type 0} (p : ℕ → A → Bool) (i : ℕ) (l : List A) → ((k : ℕ) (x : A) → i ≤ k → k < i + length l → p k x ≡ false) → first_from p i l ≡ None
unfolding first_from
first_none p i [] e = refl
first_none p i (x ∷ l) e = rw (e i x (omega arith) (omega arith)) (first_none p (suc i) l (λ k y h g. e k y (omega arith) (omega arith)))

-- ---- a mapped table by its places

pub length_mapped : {A B : Type 0} (f : ℕ → A → B) (i : ℕ) (l : List A) → length (map_from f i l) ≡ length l
unfolding map_from
length_mapped f i [] = refl
length_mapped f i (x ∷ l) = ap suc (length_mapped f (suc i) l)

pub mapped_at : {A B : Type 0} (f : ℕ → A → B) (i : ℕ) (l : List A) (k : ℕ) (d : A) (e : B) → k < length l → get_or (map_from f i l) k e ≡ f (i + k) (get_or l k d)
unfolding map_from
mapped_at f i [] k d e h = absurd (not-suc-le-zero h)
mapped_at f i (x ∷ l) zero d e h = rw add-zero
mapped_at f i (x ∷ l) (suc k) d e h = mapped_at f (suc i) l k d e (le_of_suc-le-suc h) ∙ rw (suc-add i k, add-suc i k)

-- ---- a count by its places

-- two tests that agree at every place count the same
pub counts_agree : {A : Type 0} (p q : ℕ → A → Bool) (d : A) (i : ℕ) (xs : List A) → ((k : ℕ) → k < length xs → p (i + k) (get_or xs k d) ≡ q (i + k) (get_or xs k d)) → count_from p i xs ≡ count_from q i xs
unfolding count_from
counts_agree p q d i [] f = refl
counts_agree p q d i (x ∷ xs) f =
    let z : p i x ≡ q i x = rw (add-zero i) at (f 0 (omega arith)) in
    rw (z, counts_agree p q d (suc i) xs (λ k h. rw (suc-add i k, ← add-suc i k) (f (suc k) (omega arith))))

-- ---- a search by its place

-- a search that has come to place i
module _ {A : Type 0} (p : ℕ → A → Bool) (xs : List A) (i : ℕ) where
  pub first_here : (d : A) → i < length xs → p i (get_or xs i d) ≡ true → first_from p i (drop i xs) ≡ Some i
  unfolding first_from
  first_here d h e = rw (drop-cons xs i d, e)

  pub first_past : (d : A) → i < length xs → p i (get_or xs i d) ≡ false → first_from p i (drop i xs) ≡ first_from p (i + 1) (drop (i + 1) xs)
  unfolding first_from
  first_past d h e = rw (drop-cons xs i d, e, add-one i)

  pub first_ended : length xs ≤ i → first_from p i (drop i xs) ≡ None
  unfolding first_from
  first_ended h = rw (drop_of_length-le xs h)

-- what is found stands within the list
pub first_within : {A : Type 0} (p : ℕ → A → Bool) (xs : List A) (i k : ℕ) → first_from p i xs ≡ Some k → k < i + length xs
unfolding first_from
first_within p [] i k e = let z : ◌≡◌ {A = ℕ} 0 1 = cc in absurd (omega arith)
first_within {A} p (x ∷ xs) i k e = go (p i x) (first_within p xs (suc i) k) e
  where
    go : (t : Bool) → (first_from p (suc i) xs ≡ Some k → k < suc i + length xs) → cond t (Some i) (first_from p (suc i) xs) ≡ Some k → k < i + length (x ∷ xs)
    go true ih h = let z : i ≡ k = cc in omega arith
    go false ih h = omega (arith, ih h)

-- one that asks no entry for its place is std's `position`
from_position : {A : Type 0} (p : A → Bool) (i : ℕ) (xs : List A) → position_from p i xs ≡ first_from (λ place x. p x) i xs
unfolding first_from
from_position p i [] = refl
from_position p i (x ∷ xs) = rw (add-one i, from_position p (suc i) xs)

pub first_position : {A : Type 0} (p : A → Bool) (xs : List A) → position p xs ≡ first_at (λ place x. p x) xs
first_position p xs = position_from-zero p xs ∙ from_position p 0 xs

-- ---- what a search says of every entry

pub none_passes : (p : ℕ → ℕ → Bool) (i : ℕ) (xs : List ℕ) → first_from p i xs ≡ None → (k : ℕ) → k < length xs → p (i + k) (get_or xs k 0) ≡ false
unfolding first_from
none_passes p i [] e k h = absurd (not-suc-le-zero h)
none_passes p i (x ∷ xs) e k h = go (p i x) refl e k h (none_passes p (suc i) xs)
  where
    go : (t : Bool) → p i x ≡ t → cond t (Some i) (first_from p (suc i) xs) ≡ None → (k : ℕ) → k < length (x ∷ xs)
        → (first_from p (suc i) xs ≡ None → (k : ℕ) → k < length xs → p (suc i + k) (get_or xs k 0) ≡ false) → p (i + k) (get_or (x ∷ xs) k 0) ≡ false
    go true q e k h f = let z : ◌≡◌ {A = ℕ} 0 1 = cc in absurd (omega arith)
    go false q e zero h f = rw add-zero q
    go false q e (suc k) h f = rw (add-suc i k, ← suc-add i k) (f e k (le_of_suc-le-suc h))

pub none_found : (p : ℕ → ℕ → Bool) (i : ℕ) (xs : List ℕ) → ((k : ℕ) → k < length xs → p (i + k) (get_or xs k 0) ≡ false) → first_from p i xs ≡ None
unfolding first_from
none_found p i [] f = refl
none_found p i (x ∷ xs) f =
    let z : p i x ≡ false = rw (add-zero i) at (f 0 (omega arith)) in
    rw z (none_found p (suc i) xs (λ k h. rw (suc-add i k, ← add-suc i k) (f (suc k) (omega arith))))

-- ---- a number that occurs in a table: entry by entry, and part by part

module _ (v : ℕ) where
  found_or : (t : Bool) (i : ℕ) (f : Option ℕ) → is_found (cond t (Some i) f) ≡ (t || is_found f)
  found_or true i f = refl
  found_or false i f = refl

  -- from whatever place the entries are numbered
  from_any : (i j : ℕ) (xs : List ℕ) → is_found (first_from (λ place entry. eqb entry v) i xs) ≡ is_found (first_from (λ place entry. eqb entry v) j xs)
  unfolding first_from
  from_any i j [] = refl
  from_any i j (x ∷ xs) = found_or (eqb x v) i _ ∙ ap (λ (b : Bool). eqb x v || b) (from_any (suc i) (suc j) xs) ∙ sym (found_or (eqb x v) j _)

  pub occurs_cons : (x : ℕ) (xs : List ℕ) → occurs (x ∷ xs) v ≡ (eqb x v || occurs xs v)
  unfolding first_from
  occurs_cons x xs = found_or (eqb x v) 0 _ ∙ ap (λ (b : Bool). eqb x v || b) (from_any 1 0 xs)

  pub occurs_append : (xs ys : List ℕ) → occurs (xs ++ ys) v ≡ (occurs xs v || occurs ys v)
  unfolding first_from
  occurs_append [] ys = refl
  occurs_append (x ∷ xs) ys =
      occurs_cons x (xs ++ ys)
      ∙ ap (λ (b : Bool). eqb x v || b) (occurs_append xs ys)
      ∙ sym (or_assoc (eqb x v) (occurs xs v) (occurs ys v))
      ∙ ap (λ (b : Bool). b || occurs ys v) (sym (occurs_cons x xs))

  module _ (xs : List ℕ) (i : ℕ) where
    -- in the rest from place i on: there, or in the rest behind it
    pub occurs_turn : i < length xs → occurs (drop i xs) v ≡ (eqb (get_or xs i 0) v || occurs (drop (i + 1) xs) v)
    occurs_turn h = rw (add-one i, drop-cons xs i 0 h) (occurs_cons (get_or xs i 0) (drop (suc i) xs))

    pub occurs_ended : length xs ≤ i → occurs (drop i xs) v ≡ false
    unfolding first_from
    occurs_ended h = rw (drop_of_length-le xs h)

  -- in one of the first k stretches of n entries, or in the rest behind them
  pub occurs_chunks : (n k : ℕ) (xs : List ℕ) → (list_any (λ stretch. occurs stretch v) (first_chunks n k xs) || occurs (drop (k * n) xs) v) ≡ occurs xs v
  occurs_chunks n zero xs = let e : 0 * n ≡ 0 = omega arith in rw e
  occurs_chunks n (suc k) xs =
      let e : suc k * n ≡ n + k * n = omega arith in
      rw (e, ← drop-drop (k * n) n xs)
      (or_assoc (occurs (take n xs) v) _ _
      ∙ ap (λ (b : Bool). occurs (take n xs) v || b) (occurs_chunks n k (drop n xs))
      ∙ sym (occurs_append (take n xs) (drop n xs))
      ∙ ap (λ (ys : List ℕ). occurs ys v) (take-append-drop n xs))

-- ---- a number occurs in a table exactly when some place has it

pub record HasPlace (xs : List ℕ) (v : ℕ) : Type 0 where
  pub place : ℕ
  pub within : place < length xs
  pub there : get_or xs place 0 ≡ v

pub occurs_exactly : (xs : List ℕ) (v : ℕ) → (occurs xs v ≡ true → HasPlace xs v) × (HasPlace xs v → occurs xs v ≡ true)
unfolding first_from
occurs_exactly xs v = (found 0 xs, λ h. by h (first_from (λ place entry. eqb entry v) 0 xs) refl)
  where
    found : (i : ℕ) (xs : List ℕ) → is_found (first_from (λ place entry. eqb entry v) i xs) ≡ true → HasPlace xs v
    found i [] e = never (sym e)
    found i (x ∷ xs) e = go (eqb x v) refl (found (suc i) xs) e
      where
        go : (t : Bool) → eqb x v ≡ t → (is_found (first_from (λ place entry. eqb entry v) (suc i) xs) ≡ true → HasPlace xs v)
            → is_found (cond t (Some i) (first_from (λ place entry. eqb entry v) (suc i) xs)) ≡ true → HasPlace (x ∷ xs) v
        go true q f e = record { place = 0; within = omega arith; there = eqb-true x v q }
        go false q f e = let h = f e in record { place = suc h.place; within = omega (arith, h.within); there = h.there }

    by : HasPlace xs v → (f : Option ℕ) → first_from (λ place entry. eqb entry v) 0 xs ≡ f → is_found f ≡ true
    by h (Some s) e = refl
    by h None e = never (sym (eq-eqb _ v h.there) ∙ none_passes (λ place entry. eqb entry v) 0 xs e h.place h.within)

-- ---- a table rewritten from the front

-- the entries of l below s are rewritten, the others are still a's
pub record Rewritten (f : ℕ → ℕ → ℕ) (a l : List ℕ) (s : ℕ) : Type 0 where
  pub within : s ≤ length a
  pub long : length l ≡ length a
  pub rest : map_from f 0 a ≡ take s l ++ map_from f s (drop s l)

pub rewritten_none : (f : ℕ → ℕ → ℕ) (a : List ℕ) → Rewritten f a a 0
rewritten_none f a = record { within = omega arith; long = refl; rest = refl }

pub rewritten_all : (f : ℕ → ℕ → ℕ) (a l : List ℕ) (s : ℕ) → Rewritten f a l s → length l ≤ s → l ≡ map_from f 0 a
unfolding map_from
rewritten_all f a l s r h = sym (r.rest ∙ rw (drop_of_length-le l h, append-nil, take_all s l h))
