-- A line that is decoded in its own place: what is decoded already, and the digits that are left.
use mathlib.Core.Path.{◌≡◌, refl, sym, ap, ap₂, ◌∙◌}
use mathlib.Core.List.{List, [], ◌∷◌, ◌++◌, append_assoc, append-nil}
use Prim.Native.Nat.{ℕ, ◌+◌, ◌*◌, ◌≤◌, ◌<◌}
use native.Mathlib.Nat.{add_assoc}
use native.Mathlib.Omega.{arith}
use native.Mathlib.Numerals.{add-one}
use lib.ListN.{length, take, drop, get_or, set, length-set, drop_of_length-le}
use lib.Seq.{drop-cons, take-suc-set, get_or-set_other}
use borrow.Author.Tests.{lt-ltb, le-ltb}
use Rattle.spelling.specs.Lines.{digit_of, Line, key, bad, onto, read}

onto_onto : (a b : List ℕ) (line : Line) → onto a (onto b line) ≡ onto (a ++ b) line
onto_onto a b (key k) = ap key (sym (append_assoc a b k))
onto_onto a b bad = refl

-- the line from place i on
module _ (s : List ℕ) (i : ℕ) where
  two : i + 1 < length s → drop i s ≡ get_or s i 0 ∷ get_or s (i + 1) 0 ∷ drop (i + 2) s
  two h =
      drop-cons s i 0 (omega arith)
      ∙ ap (λ (l : List ℕ). get_or s i 0 ∷ l)
      (ap (λ (k : ℕ). drop k s) (sym (add-one i)) ∙ drop-cons s (i + 1) 0 h ∙ ap (λ (k : ℕ). get_or s (i + 1) 0 ∷ drop k s) (sym (add-one (i + 1)) ∙ add_assoc i 1 1))

  high_bad : i + 1 < length s → 15 < digit_of (get_or s i 0) → read (drop i s) ≡ bad
  unfolding read
  high_bad h t = rw (two h, lt-ltb _ _ t)

  low_bad : i + 1 < length s → digit_of (get_or s i 0) ≤ 15 → 15 < digit_of (get_or s (i + 1) 0) → read (drop i s) ≡ bad
  unfolding read
  low_bad h t u = rw (two h, le-ltb _ _ t, lt-ltb _ _ u)

  both_good : i + 1 < length s → digit_of (get_or s i 0) ≤ 15 → digit_of (get_or s (i + 1) 0) ≤ 15
      → read (drop i s) ≡ onto ((digit_of (get_or s i 0) * 16 + digit_of (get_or s (i + 1) 0)) ∷ []) (read (drop (i + 2) s))
  unfolding read
  both_good h t u = rw (two h, le-ltb _ _ t, le-ltb _ _ u)

  odd_end : i < length s → length s ≤ i + 1 → read (drop i s) ≡ bad
  unfolding read
  odd_end h e = rw (drop-cons s i 0, ← add-one i, drop_of_length-le s e)

  even_end : length s ≤ i → read (drop i s) ≡ key []
  unfolding read
  even_end e = rw (drop_of_length-le s e)

-- n bytes of the line `was` are decoded, and stand at the front of the line `is`
pub record Decoded (was is : List ℕ) (n : ℕ) : Type 0 where
  pub fits : 2 * n ≤ length was
  pub same : length is ≡ length was
  pub rest : (j : ℕ) → 2 * n ≤ j → get_or is j 0 ≡ get_or was j 0
  pub done : read was ≡ onto (take n is) (read (drop (2 * n) was))

onto_none : (line : Line) → line ≡ onto [] line
onto_none (key k) = refl
onto_none bad = refl

pub start : (was : List ℕ) → Decoded was was 0
start was = record { fits = omega arith; same = refl; rest = λ j h. refl; done = onto_none (read was) }

module _ {was is : List ℕ} {n : ℕ} (d : Decoded was is n) where
  module _ (h : 2 * n + 1 < length is) (high low : ℕ) (eh : high ≡ digit_of (get_or is (2 * n) 0)) (el : low ≡ digit_of (get_or is (2 * n + 1) 0)) where
    within : 2 * n + 1 < length was
    within = omega (arith, d.same)

    high_was : high ≡ digit_of (get_or was (2 * n) 0)
    high_was = eh ∙ ap digit_of (d.rest (2 * n) (omega arith))

    low_was : low ≡ digit_of (get_or was (2 * n + 1) 0)
    low_was = el ∙ ap digit_of (d.rest (2 * n + 1) (omega arith))

    pub high_stops : 15 < high → bad ≡ read was
    high_stops t = sym (rw (d.done, high_bad was (2 * n) within (rw high_was at t)))

    pub low_stops : high ≤ 15 → 15 < low → bad ≡ read was
    low_stops t u = sym (rw (d.done, low_bad was (2 * n) within (rw high_was at t) (rw low_was at u)))

    stored : take n is ++ ((digit_of (get_or was (2 * n) 0) * 16 + digit_of (get_or was (2 * n + 1) 0)) ∷ []) ≡ take (n + 1) (set is n (high * 16 + low))
    stored =
        ap₂ (λ (a b : ℕ). take n is ++ ((a * 16 + b) ∷ [])) (sym high_was) (sym low_was)
        ∙ sym (ap (λ (k : ℕ). take k (set is n (high * 16 + low))) (add-one n) ∙ take-suc-set is n (high * 16 + low) (omega arith))

    pub turn : high ≤ 15 → low ≤ 15 → Decoded was (set is n (high * 16 + low)) (n + 1)
    turn t u =
        record {
          fits = omega (arith, d.same);
          same = length-set is n (high * 16 + low) ∙ d.same;
          rest = λ j k. get_or-set_other is n j (high * 16 + low) 0 (λ e. omega arith) ∙ d.rest j (omega arith);
          done =
              d.done
              ∙ ap (onto (take n is)) (both_good was (2 * n) within (rw high_was at t) (rw low_was at u))
              ∙ onto_onto (take n is) ((digit_of (get_or was (2 * n) 0) * 16 + digit_of (get_or was (2 * n + 1) 0)) ∷ []) (read (drop (2 * n + 2) was))
              ∙ ap₂ onto stored (ap (λ (k : ℕ). read (drop k was)) (let z : 2 * n + 2 ≡ 2 * (n + 1) = omega arith in z));
        }

  pub odd_stops : length is ≤ 2 * n + 1 → 2 * n < length is → bad ≡ read was
  odd_stops e h = sym (rw (d.done, odd_end was (2 * n) (omega (arith, d.same)) (omega (arith, d.same))))

  pub whole : length is ≤ 2 * n → key (take n is) ≡ read was
  whole e = sym (rw (d.done, even_end was (2 * n) (omega (arith, d.same))) (ap key (append-nil (take n is))))
