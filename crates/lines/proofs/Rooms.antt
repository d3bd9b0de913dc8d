-- What a buffer holds of a text that was written into it: as much as there is room for.
use mathlib.Core.Path.{◌≡◌, refl, sym, ◌∙◌}
use mathlib.Core.Bool.{Bool, true, false, cond}
use mathlib.Core.List.{List, [], ◌∷◌, ◌++◌, append-nil, append_assoc}
use Prim.Native.Nat.{ℕ, zero, suc, ◌+◌, ◌-◌, ◌/◌, ◌^◌, ◌≤◌, ◌<◌}
use native.Mathlib.Nat.{pow-suc}
use native.Mathlib.Omega.{arith}
use native.Mathlib.Numerals.{add-one}
use lib.Dec.{ltb}
use lib.ListN.{length, take, set, replicate, length-set, length-replicate, length-append}
use lib.Seq.{set_out, length-take-le, take-nil, take_all, take-suc-set}
use borrow.Author.Tests.{lt-ltb, le-ltb, ltb-true, ltb-false}
use Rattle.io.specs.Digits.{last_digits}
use Rattle.lines.specs.Texts.{Text, put, puts, width, decimal}

abbrev pub text : List ℕ → ℕ → Text
text bytes at = record { bytes = bytes; end = at }

-- bytes were written behind a text: the buffer keeps its length, the text stays within it, and has as many of the bytes as there was room for
pub record Written (t : Text) (l : List ℕ) (u : Text) : Type 0 where
  pub long : length u.bytes ≡ length t.bytes
  pub within : u.end ≤ length t.bytes
  pub front : take u.end u.bytes ≡ take t.end t.bytes ++ take (length t.bytes - t.end) l

module _ (bytes : List ℕ) (at b : ℕ) (l : List ℕ) {u : Text} where
  -- a byte that has room, and one that has none
  room : at < length bytes → Written (text (set bytes at b) (at + 1)) l u → Written (text bytes at) (b ∷ l) u
  room h w = record {
    long = w.long ∙ length-set bytes at b;
    within = omega (arith, w.within, length-set bytes at b);
    front =
        let z : length bytes - at ≡ suc (length bytes - suc at) = omega arith in
        w.front ∙ rw (length-set bytes at b, add-one at, take-suc-set bytes at b h, append_assoc, z);
  }

  full : at ≤ length bytes → length bytes ≤ at → Written (text bytes at) l u → Written (text bytes at) (b ∷ l) u
  full h g w = let z : length bytes - at ≡ 0 = omega arith in record { long = w.long; within = w.within; front = w.front ∙ rw z }

-- the byte, by whether there is room for it
by : (bytes : List ℕ) (at b : ℕ) (l : List ℕ) → at ≤ length bytes → ((t : Text) → t.end ≤ length t.bytes → Written t l (puts t l))
    → (t : Bool) → ltb at (length bytes) ≡ t → Written (text bytes at) (b ∷ l) (puts (put (text bytes at) b) l)
by bytes at b l h f true e =
    let g : at < length bytes = ltb-true _ _ e in
    room bytes at b l g (rw (lt-ltb _ _ g) (f (text (set bytes at b) (at + 1)) (omega (arith, length-set bytes at b))))
by bytes at b l h f false e =
    let g : length bytes ≤ at = ltb-false _ _ e in
    full bytes at b l h g (rw (le-ltb _ _ g, set_out bytes at b g) (f (text bytes at) h))

pub written : (t : Text) (l : List ℕ) → t.end ≤ length t.bytes → Written t l (puts t l)
unfolding puts
written t [] h = record { long = refl; within = h; front = rw (take-nil (length t.bytes - t.end), append-nil) }
written t (b ∷ l) h = by t.bytes t.end b l h (λ u g. written u l g) (ltb t.end (length t.bytes)) refl

-- into an empty buffer of n bytes: the first n of the bytes
abbrev pub blank : ℕ → Text
blank n = text (replicate n 0) 0

size : (n : ℕ) → length (blank n).bytes ≡ n
size n = length-replicate n 0

module _ (n : ℕ) (l : List ℕ) {u : Text} (e : u ≡ puts (blank n) l) where
  whole : Written (blank n) l u
  whole = rw e (written (blank n) l (omega arith))

  pub kept : length u.bytes ≡ n
  kept = whole.long ∙ size n

  pub ends : u.end ≤ n
  ends = omega (arith, whole.within, size n)

  -- the text as the code lends it, bytes[..end]
  pub fits : u.end ≤ length u.bytes
  fits = omega (arith, ends, kept)

  pub counted : u.end ≡ length (take u.end u.bytes)
  counted = sym (length-take-le u.end u.bytes fits)

  pub holds : take u.end u.bytes ≡ take n l
  holds = let z : length (blank n).bytes - 0 ≡ n = omega (arith, size n) in whole.front ∙ rw z

-- ---- the decimal digits of a number

digit_count : (k n : ℕ) → length (last_digits 10 k n) ≡ k
digit_count zero n = refl
digit_count (suc k) n = length-append (last_digits 10 k (n / 10)) _ ∙ rw (digit_count k (n / 10)) (omega arith)

width_within : (limit n : ℕ) → width limit n ≤ suc limit
unfolding width
width_within zero n = omega arith
width_within (suc limit) n = go (ltb n 10) (width_within limit (n / 10))
  where
    go : (t : Bool) → width limit (n / 10) ≤ suc limit → cond t 1 (suc (width limit (n / 10))) ≤ suc (suc limit)
    go true h = omega arith
    go false h = omega arith

width_below : (limit k n : ℕ) → n < 10 ^ suc k → width limit n ≤ suc k
unfolding width
width_below zero k n h = omega arith
width_below (suc limit) zero n h = let g : n < 10 = omega (arith, pow-suc 10 0) in rw (lt-ltb n 10 g) (omega arith)
width_below (suc limit) (suc k) n h = go (ltb n 10) (width_below limit k (n / 10) (omega (arith, pow-suc 10 (suc k))))
  where
    go : (t : Bool) → width limit (n / 10) ≤ suc k → cond t 1 (suc (width limit (n / 10))) ≤ suc (suc k)
    go true h = omega arith
    go false h = omega arith

-- a number below 10 to the k, k above 0, has at most k of them; any has at most 20, so that 20 bytes have room for all
pub few_digits : (k n : ℕ) → n < 10 ^ suc k → length (decimal n) ≤ suc k
unfolding decimal
few_digits k n h = omega (arith, digit_count (width 19 n) n, width_below 19 k n h)

pub at_most_20 : (n : ℕ) → length (decimal n) ≤ 20
unfolding decimal
at_most_20 n = omega (arith, digit_count (width 19 n) n, width_within 19 n)

pub holds_decimal : (n : ℕ) {u : Text} → u ≡ puts (blank 20) (decimal n) → take u.end u.bytes ≡ decimal n
holds_decimal n e = holds 20 (decimal n) e ∙ take_all 20 (decimal n) (at_most_20 n)
