-- Lists of marks: in order, passing a test, with one slot's taken out or one mark put in; and what is found in them then.
use Rattle.std.specs.Prelude.{None, Some}
use mathlib.Core.Path.{◌≡◌, refl, sym, subst, ◌∙◌}
use mathlib.Core.Bool.{Bool, true, false, cond, not}
use mathlib.Core.List.{List, [], ◌∷◌}
use Prim.Native.Nat.{ℕ, zero, suc, ◌≤◌, ◌<◌}
use native.Mathlib.Nat.{le_of_suc-le-suc, not-suc-le-zero, le_trans}
use native.Mathlib.Omega.{arith}
use lib.ListN.{length, get_or}
use lib.Dec.{eqb, ltb}
use borrow.Author.Tests.{eq-eqb, ne_eqb, eqb-true, eqb-false, ltb-true, ltb-false, not-true}
use Rattle.state.specs.Node.{no_mark}
use Rattle.state.specs.declared.Mark.{Mark}
use Rattle.state.specs.declared.Move.{Move}
use Rattle.marks.specs.Marks.{marking_of, is_unmarked, others, insert}

-- ---- in order, and passing a test

-- slots from b on, each above the one before
abbrev pub Above : ℕ → List Mark → Type 0
Above b [] = Unit
Above b (x ∷ l) = (b ≤ x.slot) × Above (suc x.slot) l

-- every mark passes
abbrev pub All : (Mark → Bool) → List Mark → Type 0
All p [] = Unit
All p (x ∷ l) = (p x ≡ true) × All p l

lower : (b d : ℕ) (l : List Mark) → b ≤ d → Above d l → Above b l
lower b d [] h a = tt
lower b d (x ∷ l) h a = (le_trans h a.0, a.1)

-- place by place
pub above_of : (b : ℕ) (l : List Mark) → (0 < length l → b ≤ (get_or l 0 no_mark).slot) → ((k : ℕ) → suc k < length l → (get_or l k no_mark).slot < (get_or l (suc k) no_mark).slot) → Above b l
above_of b [] h f = tt
above_of b (x ∷ l) h f = (h (omega arith), above_of (suc x.slot) l (λ g. f 0 (omega (arith, g))) (λ k g. f (suc k) (omega (arith, g))))

pub of_above : (b : ℕ) (l : List Mark) → Above b l → (k : ℕ) → suc k < length l → (get_or l k no_mark).slot < (get_or l (suc k) no_mark).slot
of_above b [] a k h = absurd (not-suc-le-zero h)
of_above b (x ∷ []) a k h = absurd (not-suc-le-zero (le_of_suc-le-suc h))
of_above b (x ∷ y ∷ l) a zero h = a.1.0
of_above b (x ∷ y ∷ l) a (suc k) h = of_above (suc x.slot) (y ∷ l) a.1 k (le_of_suc-le-suc h)

pub all_of : (p : Mark → Bool) (l : List Mark) → ((k : ℕ) → k < length l → p (get_or l k no_mark) ≡ true) → All p l
all_of p [] f = tt
all_of p (x ∷ l) f = (f 0 (omega arith), all_of p l (λ k g. f (suc k) (omega (arith, g))))

pub of_all : (p : Mark → Bool) (l : List Mark) → All p l → (k : ℕ) → k < length l → p (get_or l k no_mark) ≡ true
of_all p [] a k h = absurd (not-suc-le-zero h)
of_all p (x ∷ l) a zero h = a.0
of_all p (x ∷ l) a (suc k) h = of_all p l a.1 k (le_of_suc-le-suc h)

-- ---- the marks of other slots

pub others_above : (s b : ℕ) (l : List Mark) → Above b l → Above b (others s l)
unfolding others
others_above s b [] a = tt
others_above s b (x ∷ l) a = by (eqb x.slot s) (others_above s (suc x.slot) l a.1)
  where
    by : (t : Bool) → Above (suc x.slot) (others s l) → Above b (cond t (others s l) (x ∷ others s l))
    by true r = lower b (suc x.slot) (others s l) (omega (arith, a.0)) r
    by false r = (a.0, r)

pub others_all : (s : ℕ) (p : Mark → Bool) (l : List Mark) → All p l → All p (others s l)
unfolding others
others_all s p [] a = tt
others_all s p (x ∷ l) a = by (eqb x.slot s) (others_all s p l a.1)
  where
    by : (t : Bool) → All p (others s l) → All p (cond t (others s l) (x ∷ others s l))
    by true r = r
    by false r = (a.0, r)

abbrev pub another : ℕ → Mark → Bool
another s x = not (eqb x.slot s)

pub others_free : (s : ℕ) (l : List Mark) → All (another s) (others s l)
unfolding others
others_free s [] = tt
others_free s (x ∷ l) = by (eqb x.slot s) refl (others_free s l)
  where
    by : (t : Bool) → t ≡ eqb x.slot s → All (another s) (others s l) → All (another s) (cond t (others s l) (x ∷ others s l))
    by true e r = r
    by false e r = (rw (← e), r)

pub others_few : (s : ℕ) (l : List Mark) → length (others s l) ≤ length l
unfolding others
others_few s [] = omega arith
others_few s (x ∷ l) = by (eqb x.slot s) (others_few s l)
  where
    by : (t : Bool) → length (others s l) ≤ length l → length (cond t (others s l) (x ∷ others s l)) ≤ suc (length l)
    by true r = omega (arith, r)
    by false r = omega (arith, r)

-- of a marked slot's marks at least one goes
pub others_fewer : (s : ℕ) (l : List Mark) → is_unmarked (marking_of s l) ≡ false → length (others s l) < length l
unfolding others marking_of
others_fewer s [] h = let z : ◌≡◌ {A = ℕ} 0 1 = cc in absurd (omega arith)
others_fewer s (x ∷ l) h = by (eqb x.slot s) h (others_few s l) (others_fewer s l)
  where
    by : (t : Bool) → is_unmarked (cond t (Some x.movement) (marking_of s l)) ≡ false → length (others s l) ≤ length l → (is_unmarked (marking_of s l) ≡ false → length (others s l) < length l) → length (cond t (others s l) (x ∷ others s l)) < suc (length l)
    by true e r f = omega (arith, r)
    by false e r f = omega (arith, f e)

-- ---- one mark more

pub insert_above : (m : Mark) (b : ℕ) (l : List Mark) → b ≤ m.slot → All (another m.slot) l → Above b l → Above b (insert m l)
unfolding insert
insert_above m b [] h f a = (h, tt)
insert_above m b (x ∷ l) h f a = by (ltb m.slot x.slot) refl (λ g. insert_above m (suc x.slot) l g f.1 a.1)
  where
    by : (t : Bool) → t ≡ ltb m.slot x.slot → (suc x.slot ≤ m.slot → Above (suc x.slot) (insert m l)) → Above b (cond t (m ∷ x ∷ l) (x ∷ insert m l))
    by true e r = (h, (ltb-true m.slot x.slot (sym e), a.1))
    by false e r =
        let g : x.slot ≤ m.slot = ltb-false m.slot x.slot (sym e) in
        let d : x.slot ≡ m.slot → ⊥ = eqb-false x.slot m.slot (not-true (eqb x.slot m.slot) f.0) in
        (a.0, r (omega (arith, d)))

pub insert_all : (m : Mark) (p : Mark → Bool) (l : List Mark) → p m ≡ true → All p l → All p (insert m l)
unfolding insert
insert_all m p [] h a = (h, tt)
insert_all m p (x ∷ l) h a = by (ltb m.slot x.slot) (insert_all m p l h a.1)
  where
    by : (t : Bool) → All p (insert m l) → All p (cond t (m ∷ x ∷ l) (x ∷ insert m l))
    by true r = (h, a)
    by false r = (a.0, r)

-- ---- what is found

-- none of a slot whose marks were taken out, and of another slot what was there
pub taken_out : (s : ℕ) (l : List Mark) → All (another s) l → marking_of s l ≡ None
unfolding marking_of
taken_out s [] a = refl
taken_out s (x ∷ l) a = rw (not-true (eqb x.slot s) a.0) (taken_out s l a.1)

pub left_in : (s t : ℕ) (l : List Mark) → (t ≡ s → ⊥) → marking_of t (others s l) ≡ marking_of t l
unfolding marking_of others
left_in s t [] d = refl
left_in s t (x ∷ l) d = by (eqb x.slot s) refl (left_in s t l d)
  where
    by : (b : Bool) → b ≡ eqb x.slot s → marking_of t (others s l) ≡ marking_of t l → marking_of t (cond b (others s l) (x ∷ others s l)) ≡ cond (eqb x.slot t) (Some x.movement) (marking_of t l)
    by true e r = rw (ne_eqb x.slot t (λ q. d (sym q ∙ eqb-true x.slot s (sym e)))) r
    by false e r = rw r

-- the mark that was put in, where no other of its slot is, and of another slot what was there
pub put_in : (m : Mark) (l : List Mark) → All (another m.slot) l → marking_of m.slot (insert m l) ≡ Some m.movement
unfolding marking_of insert
put_in m [] a = rw (eq-eqb m.slot m.slot refl)
put_in m (x ∷ l) a = by (ltb m.slot x.slot) (put_in m l a.1)
  where
    by : (b : Bool) → marking_of m.slot (insert m l) ≡ Some m.movement → marking_of m.slot (cond b (m ∷ x ∷ l) (x ∷ insert m l)) ≡ Some m.movement
    by true r = rw (eq-eqb m.slot m.slot refl)
    by false r = rw (not-true (eqb x.slot m.slot) a.0) r

pub passed_by : (m : Mark) (t : ℕ) (l : List Mark) → (t ≡ m.slot → ⊥) → marking_of t (insert m l) ≡ marking_of t l
unfolding marking_of insert
passed_by m t [] d = rw (ne_eqb m.slot t (λ q. d (sym q)))
passed_by m t (x ∷ l) d = by (ltb m.slot x.slot) (passed_by m t l d)
  where
    by : (b : Bool) → marking_of t (insert m l) ≡ marking_of t l → marking_of t (cond b (m ∷ x ∷ l) (x ∷ insert m l)) ≡ cond (eqb x.slot t) (Some x.movement) (marking_of t l)
    by true r = rw (ne_eqb m.slot t (λ q. d (sym q)))
    by false r = rw r

-- what holds of the movement of each mark that passes holds of the movement that is found
pub found_holds : (R : Move → Type 0) (p : Mark → Bool) → ((x : Mark) → p x ≡ true → R x.movement) → (s : ℕ) (l : List Mark) (m : Move) → All p l → marking_of s l ≡ Some m → R m
unfolding marking_of
found_holds R p f s [] m a e = let z : ◌≡◌ {A = ℕ} 0 1 = cc in absurd (omega arith)
found_holds R p f s (x ∷ l) m a e = by (eqb x.slot s) e (found_holds R p f s l m a.1)
  where
    by : (b : Bool) → cond b (Some x.movement) (marking_of s l) ≡ Some m → (marking_of s l ≡ Some m → R m) → R m
    by true q r = let g : x.movement ≡ m = cc in subst R g (f x a.0)
    by false q r = r q
