-- Laws of tables: one entry written, and a list that a loop writes from the front, entry by entry.
use mathlib.Core.Path.{◌≡◌, refl, ap, ◌∙◌}
use mathlib.Core.List.{List, [], ◌∷◌, ◌++◌, append-nil}
use Prim.Native.Nat.{ℕ, zero, suc, ◌+◌, ◌≤◌, ◌<◌}
use native.Mathlib.Numerals.{add-one}
use native.Mathlib.Omega.{arith}
use lib.ListN.{length, take, drop, get_or, set, replicate, length-set, drop_of_length-le}
use borrow.Author.Fill.{fill_none, fill_more}
use lib.Seq.{drop-cons, set_at, take-suc, append_snoc, length-take-le}

-- what holds of an entry, and of what is written at its place, holds of it after the write
pub at_set : {A : Type 0} (P : A → Type 0) (l : List A) (k : ℕ) (x d : A) (j : ℕ) → P (get_or l j d) → (j ≡ k → P x) → P (get_or (set l k x) j d)
at_set P [] k x d j h f = h
at_set P (a ∷ l) zero x d zero h f = f refl
at_set P (a ∷ l) zero x d (suc j) h f = h
at_set P (a ∷ l) (suc k) x d zero h f = h
at_set P (a ∷ l) (suc k) x d (suc j) h f = at_set P l k x d j h (λ e. f (ap suc e))

-- the first i entries are a's, the others b's: one more of a's
pub store : {A : Type 0} (a b : List A) (i : ℕ) (d : A) → i < length a → i < length b → set (take i a ++ drop i b) i (get_or a i d) ≡ take (i + 1) a ++ drop (i + 1) b
store a b i d ha hb =
    let l : length (take i a) ≡ i = length-take-le i a (omega arith) in
    rw (add-one i, drop-cons b i d hb, set_at (take i a) (get_or b i d) (drop (suc i) b) (get_or a i d) i l, take-suc a i d ha, append_snoc)

-- a list that was a is filled with v below i
pub record Filled (v : ℕ) (a l : List ℕ) (i : ℕ) : Type 0 where
  pub within : i ≤ length a
  pub long : length l ≡ length a
  pub front : l ≡ replicate i v ++ drop i a

pub filled_none : (v : ℕ) (a : List ℕ) → Filled v a a 0
filled_none v a = record { within = omega arith; long = refl; front = fill_none a v }

pub filled_more : (v : ℕ) (a l : List ℕ) (i : ℕ) → Filled v a l i → i < length l → Filled v a (set l i v) (i + 1)
filled_more v a l i f h = let g : i < length a = omega (arith, f.long) in record {
  within = omega arith;
  long = length-set l i v ∙ f.long;
  front = rw f.front (fill_more i v a g);
}

pub filled_all : (v : ℕ) (a l : List ℕ) (i : ℕ) → Filled v a l i → length l ≤ i → l ≡ replicate (length a) v
filled_all v a l i f h =
    let e : i ≡ length a = omega (arith, f.long, f.within) in
    let past : length a ≤ i = omega (arith, f.long) in
    f.front ∙ rw (drop_of_length-le a past, append-nil, e)
