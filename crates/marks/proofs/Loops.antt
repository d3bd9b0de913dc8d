-- The laws of a list of marks as the loops over the array meet them.
use Rattle.std.specs.Prelude.{Some}
use mathlib.Core.Path.{◌≡◌, refl, sym, ap, ◌∙◌}
use mathlib.Core.Bool.{Bool, true, false, cond}
use mathlib.Core.List.{List, [], ◌∷◌, ◌++◌, append-nil}
use Prim.Native.Nat.{ℕ, zero, suc, ◌+◌, ◌-◌, min, ◌≤◌, ◌<◌}
use native.Mathlib.Numerals.{add-one}
use native.Mathlib.Omega.{arith}
use lib.ListN.{length, take, drop, get_or, set}
use lib.Seq.{drop-cons, take-suc, set_at, append_snoc, length-take-le, take_at, drop-drop, drop-append-add, take-take, take_all, paste}
use Rattle.std.proofs.lemmas.List.{append_assoc, drop-take}
use native.Mathlib.Decide.{dec_le}
use lib.Dec.{eqb, ltb}
use borrow.Author.Tests.{lt-ltb, le-ltb, eq-eqb, ne_eqb}
use Rattle.state.specs.declared.Node.{Node}
use Rattle.state.specs.declared.Mark.{Mark}
use Rattle.state.specs.Node.{no_mark}
use Rattle.state.specs.Changes.{with_marks}
use Rattle.marks.specs.Marks.{marks_of, remarked, others, insert, place_of, marking_of}

-- a list from place i on
module _ (L : List Mark) (i : ℕ) (h : i < length L) where
  front : drop i L ≡ get_or L i no_mark ∷ drop (i + 1) L
  front = rw (add-one i, drop-cons L i no_mark h)

  pub found : (s : ℕ) → (get_or L i no_mark).slot ≡ s → marking_of s (drop i L) ≡ Some (get_or L i no_mark).movement
  unfolding marking_of
  found s e = rw (front, eq-eqb _ _ e)

  pub missed : (s : ℕ) → ((get_or L i no_mark).slot ≡ s → ⊥) → marking_of s (drop i L) ≡ marking_of s (drop (i + 1) L)
  unfolding marking_of
  missed s e = rw (front, ne_eqb _ _ e)

  pub here : (s : ℕ) → s < (get_or L i no_mark).slot → place_of s (drop i L) ≡ 0
  unfolding place_of
  here s e = rw (front, lt-ltb _ _ e)

  pub further : (s : ℕ) → (get_or L i no_mark).slot ≤ s → place_of s (drop i L) ≡ suc (place_of s (drop (i + 1) L))
  unfolding place_of
  further s e = rw (front, le-ltb _ _ e)

-- the marks of other slots, one place more
others_snoc : (s : ℕ) (l : List Mark) (x : Mark) → others s (l ++ x ∷ []) ≡ others s l ++ cond (eqb x.slot s) [] (x ∷ [])
unfolding others
others_snoc s [] x = refl
others_snoc s (m ∷ l) x = both (eqb m.slot s) (cond (eqb x.slot s) [] (x ∷ [])) (others_snoc s l x)
  where
    both : (b : Bool) (r : List Mark) → others s (l ++ x ∷ []) ≡ others s l ++ r → cond b (others s (l ++ x ∷ [])) (m ∷ others s (l ++ x ∷ [])) ≡ cond b (others s l) (m ∷ others s l) ++ r
    both true r e = e
    both false r e = ap (λ (t : List Mark). m ∷ t) e

module _ (M : List Mark) (s i : ℕ) (h : i < length M) where
  pub left_out : (get_or M i no_mark).slot ≡ s → others s (take (i + 1) M) ≡ others s (take i M)
  left_out e = rw (add-one i, take-suc M i no_mark h, others_snoc, eq-eqb _ _ e, append-nil)

  pub kept : ((get_or M i no_mark).slot ≡ s → ⊥) → others s (take (i + 1) M) ≡ others s (take i M) ++ get_or M i no_mark ∷ []
  kept e = rw (add-one i, take-suc M i no_mark h, others_snoc, ne_eqb _ _ e)

-- a front laid over an array, one place more
pub laid : (F M : List Mark) (j : ℕ) (x : Mark) → length F ≡ j → j < length M → set (F ++ drop j M) j x ≡ (F ++ x ∷ []) ++ drop (j + 1) M
laid F M j x l h = rw (add-one j, drop-cons M j no_mark h, set_at F (get_or M j no_mark) (drop (suc j) M) x j l, append_snoc)

-- a mark stands at its place
split : (m : Mark) (l : List Mark) → insert m l ≡ take (place_of m.slot l) l ++ m ∷ drop (place_of m.slot l) l
unfolding insert place_of
split m [] = refl
split m (x ∷ l) = by (ltb m.slot x.slot) (split m l)
  where
    by : (b : Bool) → insert m l ≡ take (place_of m.slot l) l ++ m ∷ drop (place_of m.slot l) l
        → cond b (m ∷ x ∷ l) (x ∷ insert m l) ≡ take (cond b zero (suc (place_of m.slot l))) (x ∷ l) ++ m ∷ drop (cond b zero (suc (place_of m.slot l))) (x ∷ l)
    by true e = refl
    by false e = ap (λ (t : List Mark). x ∷ t) e

pub length_insert : (m : Mark) (l : List Mark) → length (insert m l) ≡ length l + 1
unfolding insert
length_insert m [] = refl
length_insert m (x ∷ l) = by (ltb m.slot x.slot) (length_insert m l)
  where
    by : (b : Bool) → length (insert m l) ≡ length l + 1 → length (cond b (m ∷ x ∷ l) (x ∷ insert m l)) ≡ suc (length l) + 1
    by true e = omega arith
    by false e = omega (arith, e)

-- so many of a list's first, or all of them where there are fewer
pub front_all : (M : List Mark) (c k : ℕ) → k ≡ min c (length M) → take k M ≡ take c M
front_all M c k e = by (dec_le c (length M))
  where
    by : Dec (c ≤ length M) → take k M ≡ take c M
    by (yes l) = let q : k ≡ c = omega arith in rw q
    by (no l) = take_all k M (omega arith) ∙ sym (take_all c M (omega arith))

-- a mark goes in at p where the marks from p on have moved up by one
pub moved_up : (M : List Mark) (c p : ℕ) (m : Mark) → c < length M → p ≡ place_of m.slot (take c M) → p ≤ c
    → set (paste M (p + 1) (drop p M) (c - p)) p m ≡ insert m (take c M) ++ drop (length (insert m (take c M))) M
moved_up M c p m h e l =
    let g : p < length M = omega arith in
    let k : p + (c - p) ≡ c = omega arith in
    let n : length (insert m (take c M)) ≡ p + 1 + (c - p) = rw (length_insert m (take c M), length-take-le c M (omega arith)) (omega arith) in
    let d : drop p (take c M) ≡ take (c - p) (drop p M) = rw k at (drop-take p (c - p) M) in
    let t : insert m (take c M) ≡ take p M ++ m ∷ take (c - p) (drop p M) = rw (split m (take c M), ← e, take-take p c M l, d) in
    let x = get_or M p no_mark in
    let A = take (c - p) (drop p M) in
    let D = drop (p + 1 + (c - p)) M in
    let front : take (p + 1) M ≡ take p M ++ x ∷ [] = rw (add-one p, take-suc M p no_mark g) in
    rw (n, t, front) (ap (λ (xs : List Mark). set xs p m) (append_assoc (take p M ++ x ∷ []) A D ∙ append_snoc (take p M) x (A ++ D)) ∙ set_at (take p M) x (A ++ D) m p (length-take-le p M (omega arith)) ∙ sym (append_assoc (take p M) (m ∷ A) D))

-- marks listed anew, and one more then
pub again : (n : Node) (a : List Mark) (m : Mark) → remarked (remarked n a) (insert m (marks_of (remarked n a))) ≡ remarked n (insert m a)
unfolding with_marks
again n a m =
    rw (take_at a (drop (length a) n.marks) (length a) refl, length_insert m a, drop-append-add a (drop (length a) n.marks) 1, drop-drop 1 (length a) n.marks)
