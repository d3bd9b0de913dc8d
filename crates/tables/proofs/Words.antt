-- Laws of sets over any number of words: members, within and below by members, and a word made from a test.
use mathlib.Core.Path.{◌≡◌, refl, sym, ap, ap₂, ◌∙◌}
use mathlib.Core.Bool.{Bool, true, false, cond}
use mathlib.Core.List.{List, [], ◌∷◌}
use Prim.Native.Nat.{ℕ, zero, suc, ◌+◌, ◌-◌, ◌*◌, ◌/◌, ◌%◌, ◌^◌, min, ◌≤◌, ◌<◌}
use native.Mathlib.Nat.{div-eq_of_lt, mod-one, mod-lt, one-mul, add-zero, add-mul, mul_assoc, add_assoc, lt_of_lt_of_le, lt_of_le_of_lt, pow-suc}
use native.Mathlib.Numerals.{add-one, one-add}
use native.Mathlib.Decide.{dec_lt}
use native.Mathlib.Omega.{arith}
use lib.Arith.{bin_ind}
use lib.Count.{ones}
use lib.Bits.{bit_and, bit_or, and_shr, and_mod, and_step, and_zero_l, and_le_r, or_lt, or_shifted_r}
use lib.Dec.{eqb, ltb}
use lib.ListN.{length, get_or, set, get_or-eq_default}
use lib.Seq.{set_out}
use lib.Pow.{pow_pos, pow_mono, pow-lt, pow-add, mod-pow-add, split, low}
use borrow.Author.Tests.{lt-ltb, le-ltb, ltb-true, eq-eqb, ne_eqb, eqb-true}
use Rattle.tables.specs.Sets.{bit, has, add, AllFit, majority, within, both, below, word_of}
use Rattle.tables.proofs.Checks.{never}
use Rattle.tables.proofs.Groups.{bit_half}
use Rattle.tables.proofs.Sets.{one, one_eqb, bit_zero, bit_past, has_low, has_high, cond_false, word_fits}

two : 0 < 2
two = omega arith

-- ---- a set of one word: past the word there is no member

past : (w v i : ℕ) → v / 64 ≡ suc i → has (w ∷ []) v ≡ false
past w v i e = rw e (bit_zero (v % 64))

-- a member is a bit of the word
pub member_bit : (w v : ℕ) → has (w ∷ []) v ≡ true → (v < 64) × (bit w v ≡ true)
member_bit w v e = by (v / 64) refl
  where
    by : (i : ℕ) → i ≡ v / 64 → (v < 64) × (bit w v ≡ true)
    by (suc i) d = never (sym e ∙ past w v i (sym d))
    by zero d = let m : v % 64 ≡ v = omega arith in (omega arith, rw (sym d, m) at e)

bit_member : (w v : ℕ) → v < 64 → bit w v ≡ true → has (w ∷ []) v ≡ true
bit_member w v l e =
    let d : v / 64 ≡ 0 = omega arith in
    let m : v % 64 ≡ v = omega arith in
    rw (d, m) e

and_digit : (r s : ℕ) → r < 2 → s < 2 → eqb (bit_and r s) 1 ≡ cond (eqb r 1) (eqb s 1) false
and_digit zero zero h g = refl
and_digit zero (suc zero) h g = refl
and_digit (suc zero) zero h g = refl
and_digit (suc zero) (suc zero) h g = refl
and_digit zero (suc (suc s)) h g = absurd (omega arith)
and_digit (suc zero) (suc (suc s)) h g = absurd (omega arith)
and_digit (suc (suc r)) s h g = absurd (omega arith)

-- a bit of both words
pub bits_both : (a b k : ℕ) → bit (bit_and a b) k ≡ cond (bit a k) (bit b k) false
bits_both a b k =
    let d : bit_and a b / 2 ^ k % 2 ≡ bit_and (a / 2 ^ k % 2) (b / 2 ^ k % 2) = ap (λ (x : ℕ). x % 2) (and_shr a b k) ∙ and_mod (a / 2 ^ k) (b / 2 ^ k) 1 in
    ap (λ (x : ℕ). eqb x 1) d ∙ and_digit (a / 2 ^ k % 2) (b / 2 ^ k % 2) (mod-lt (a / 2 ^ k) two) (mod-lt (b / 2 ^ k) two)

bit_and_lem : (a b k : ℕ) → bit (bit_and a b) k ≡ true → bit b k ≡ true
bit_and_lem a b k e = by (bit a k) (sym (bits_both a b k) ∙ e)
  where
    by : (t : Bool) → cond t (bit b k) false ≡ true → bit b k ≡ true
    by true q = q
    by false q = never (sym q)

pub within_has : (a b v : ℕ) → bit_and a b ≡ a → has (a ∷ []) v ≡ true → has (b ∷ []) v ≡ true
within_has a b v q e = let m = member_bit a v e in bit_member b v m.0 (bit_and_lem a b v (ap (λ (x : ℕ). bit x v) q ∙ m.1))

-- ---- by numbers below 64, and past them

pub majority_one : (v h : ℕ) → ltb (ones v) (2 * ones h) ≡ majority (v ∷ []) (h ∷ [])
majority_one v h = simp add-zero

module _ (w v : ℕ) where
  pub has_in : v < 64 → has (w ∷ []) v ≡ bit w v
  has_in h = let d : v / 64 ≡ 0 = omega arith in let m : v % 64 ≡ v = omega arith in rw (d, m)

  pub has_out : 64 ≤ v → has (w ∷ []) v ≡ false
  has_out h = let d : 1 ≤ v / 64 = omega arith in rw (get_or-eq_default (w ∷ []) 0 d) (bit_zero (v % 64))

  pub add_in : v < 64 → add (w ∷ []) v ≡ bit_or w (2 ^ v) ∷ []
  add_in h = let d : v / 64 ≡ 0 = omega arith in let m : v % 64 ≡ v = omega arith in rw (d, m)

  pub add_out : 64 ≤ v → add (w ∷ []) v ≡ w ∷ []
  add_out h = let d : 1 ≤ v / 64 = omega arith in set_out (w ∷ []) (v / 64) _ d

-- a test alone in a list of tests
pub alone : (b : Bool) → b ≡ cond b true false
alone true = refl
alone false = refl

-- ---- one word

-- below a power of two: nothing is left past its bits
pub small : (w n : ℕ) → eqb (w / 2 ^ n) 0 ≡ ltb w (2 ^ n)
small w n = by (dec_lt w (2 ^ n))
  where
    by : Dec (w < 2 ^ n) → eqb (w / 2 ^ n) 0 ≡ ltb w (2 ^ n)
    by (yes h) = eq-eqb _ 0 (div-eq_of_lt h) ∙ sym (lt-ltb w (2 ^ n) h)
    by (no f) = ne_eqb (w / 2 ^ n) 0 (λ e. f (left e)) ∙ sym (le-ltb w (2 ^ n) (omega arith))
      where
        left : w / 2 ^ n ≡ 0 → w < 2 ^ n
        left e = let s : 0 * 2 ^ n + w % 2 ^ n ≡ w = ap (λ (x : ℕ). x * 2 ^ n + w % 2 ^ n) (sym e) ∙ split w n in omega (arith, mod-lt w (pow_pos n))

-- the bits of a half
bit_odd : (w : ℕ) → w % 2 ≡ 1 → bit w 0 ≡ true
bit_odd w e = let d : w / 1 ≡ w = omega arith in rw (d, e)

odd_bit : (w : ℕ) → bit w 0 ≡ true → w % 2 ≡ 1
odd_bit w e = let d : w / 1 ≡ w = omega arith in eqb-true (w % 2) 1 (rw d at e)

-- a word whose bits are bits of another
and_bits : (w v : ℕ) → ((k : ℕ) → bit w k ≡ true → bit v k ≡ true) → bit_and w v ≡ w
and_bits = bin_ind (λ w. (v : ℕ) → ((k : ℕ) → bit w k ≡ true → bit v k ≡ true) → bit_and w v ≡ w) (λ v f. and_zero_l v) half
  where
    half : (w : ℕ) → ((v : ℕ) → ((k : ℕ) → bit (w / 2) k ≡ true → bit v k ≡ true) → bit_and (w / 2) v ≡ w / 2) → (v : ℕ) → ((k : ℕ) → bit w k ≡ true → bit v k ≡ true) → bit_and w v ≡ w
    half w g v f =
        let h : bit_and (w / 2) (v / 2) ≡ w / 2 = g (v / 2) (λ k e. bit_half v k ∙ f (1 + k) (sym (bit_half w k) ∙ e)) in
        and_step w v ∙ rw h (by (w % 2) refl)
      where
        by : (r : ℕ) → r ≡ w % 2 → w / 2 * 2 + min (w % 2) (v % 2) ≡ w
        by zero e = omega arith
        by (suc zero) e = let o : v % 2 ≡ 1 = odd_bit v (f 0 (bit_odd w (sym e))) in omega arith
        by (suc (suc r)) e = absurd (omega arith)

-- a word all of whose bits are below n
small_bits : (w n : ℕ) → ((k : ℕ) → bit w k ≡ true → k < n) → w < 2 ^ n
small_bits = bin_ind (λ w. (n : ℕ) → ((k : ℕ) → bit w k ≡ true → k < n) → w < 2 ^ n) (λ n f. pow_pos n) half
  where
    half : (w : ℕ) → ((n : ℕ) → ((k : ℕ) → bit (w / 2) k ≡ true → k < n) → w / 2 < 2 ^ n) → (n : ℕ) → ((k : ℕ) → bit w k ≡ true → k < n) → w < 2 ^ n
    half w g zero f = let z : w / 2 < 1 = g 0 (λ k e. let l : 1 + k < 0 = f (1 + k) (sym (bit_half w k) ∙ e) in omega arith) in by (w % 2) refl z
      where
        by : (r : ℕ) → r ≡ w % 2 → w / 2 < 1 → w < 1
        by zero e z = omega arith
        by (suc zero) e z = let l : 0 < 0 = f 0 (bit_odd w (sym e)) in omega arith
        by (suc (suc r)) e z = absurd (omega arith)
    half w g (suc n) f = let z : w / 2 < 2 ^ n = g n (λ k e. let l : 1 + k < suc n = f (1 + k) (sym (bit_half w k) ∙ e) in omega arith) in rw (pow-suc 2 n) (omega arith)

-- ---- the first word, and the others

has_past : (w : ℕ) (ws : List ℕ) (k : ℕ) → 64 ≤ k → has (w ∷ ws) k ≡ has ws (k - 64)
has_past w ws k h = let e : k ≡ 64 + (k - 64) = omega arith in ap (has (w ∷ ws)) e ∙ has_high w ws (k - 64)

halves : (b r : Bool) → cond b r false ≡ true → (b ≡ true) × (r ≡ true)
halves true r h = (refl, h)
halves false r h = never (sym h)

pub within_parts : (p w : ℕ) (ps ws : List ℕ) → within (p ∷ ps) (w ∷ ws) ≡ true → (bit_and p w ≡ p) × (within ps ws ≡ true)
within_parts p w ps ws e = let q = halves (eqb (bit_and p w) p) (within ps ws) e in (eqb-true (bit_and p w) p q.0, q.1)

below_parts : (w : ℕ) (ws : List ℕ) (n : ℕ) → below (w ∷ ws) n ≡ true → (w < 2 ^ min n 64) × (below ws (n - 64) ≡ true)
below_parts w ws n e = let q = halves (ltb w (2 ^ min n 64)) (below ws (n - 64)) e in (ltb-true w (2 ^ min n 64) q.0, q.1)

-- ---- within: every member of one is a member of the other

pub within_members : (ps ws : List ℕ) → within ps ws ≡ true → (k : ℕ) → has ps k ≡ true → has ws k ≡ true
within_members [] ws e k h = never (sym h ∙ bit_zero (k % 64))
within_members (p ∷ ps) [] e k h = never (sym e)
within_members (p ∷ ps) (w ∷ ws) e k h = by (dec_lt k 64) (within_members ps ws (within_parts p w ps ws e).1 (k - 64))
  where
    by : Dec (k < 64) → (has ps (k - 64) ≡ true → has ws (k - 64) ≡ true) → has (w ∷ ws) k ≡ true
    by (yes l) rest = has_low w ws k l ∙ sym (has_low w [] k l) ∙ within_has p w k (within_parts p w ps ws e).0 (has_low p [] k l ∙ sym (has_low p ps k l) ∙ h)
    by (no f) rest = has_past w ws k (omega arith) ∙ rest (sym (has_past p ps k (omega arith)) ∙ h)

pub members_within : (ps ws : List ℕ) → length ps ≡ length ws → AllFit ps → ((k : ℕ) → has ps k ≡ true → has ws k ≡ true) → within ps ws ≡ true
members_within [] ws l a f = refl
members_within (p ∷ ps) [] l a f = absurd (omega arith)
members_within (p ∷ ps) (w ∷ ws) l a f =
    rw (eq-eqb (bit_and p w) p (and_bits p w (λ k e. by k e (dec_lt k 64))))
    (members_within ps ws (omega arith) a.1 (λ k e. sym (has_high w ws k) ∙ f (64 + k) (has_high p ps k ∙ e)))
  where
    by : (k : ℕ) → bit p k ≡ true → Dec (k < 64) → bit w k ≡ true
    by k e (yes h) = sym (has_low w ws k h) ∙ f k (has_low p ps k h ∙ e)
    by k e (no g) = never (sym e ∙ bit_past 64 p k a.0 (omega arith))

-- ---- below: every member is below n

pub below_members : (ws : List ℕ) (n : ℕ) → below ws n ≡ true → (k : ℕ) → has ws k ≡ true → k < n
below_members [] n e k h = never (sym h ∙ bit_zero (k % 64))
below_members (w ∷ ws) n e k h = by (dec_lt k 64) (dec_lt k n) (below_members ws (n - 64) (below_parts w ws n e).1 (k - 64))
  where
    by : Dec (k < 64) → Dec (k < n) → (has ws (k - 64) ≡ true → k - 64 < n - 64) → k < n
    by l (yes g) rest = g
    by (yes l) (no g) rest = never (sym h ∙ has_low w ws k l ∙ bit_past (min n 64) w k (below_parts w ws n e).0 (omega arith))
    by (no l) (no g) rest = let m : k - 64 < n - 64 = rest (sym (has_past w ws k (omega arith)) ∙ h) in omega arith

pub members_below : (ws : List ℕ) (n : ℕ) → AllFit ws → ((k : ℕ) → has ws k ≡ true → k < n) → below ws n ≡ true
members_below [] n a f = refl
members_below (w ∷ ws) n a f =
    rw (lt-ltb w (2 ^ min n 64) (small_bits w (min n 64) (λ k e. by k e (dec_lt k 64))))
    (members_below ws (n - 64) a.1 (λ k e. let l : 64 + k < n = f (64 + k) (has_high w ws k ∙ e) in omega arith))
  where
    by : (k : ℕ) → bit w k ≡ true → Dec (k < 64) → k < min n 64
    by k e (yes h) = let l : k < n = f k (has_low w ws k h ∙ e) in omega arith
    by k e (no g) = never (sym e ∙ bit_past 64 w k a.0 (omega arith))

pub below_fits : (ws : List ℕ) (n : ℕ) → below ws n ≡ true → AllFit ws
below_fits [] n e = tt
below_fits (w ∷ ws) n e = (lt_of_lt_of_le (below_parts w ws n e).0 (pow_mono {j = 64} (omega arith)), below_fits ws (n - 64) (below_parts w ws n e).1)

-- a part of a set whose words fit
pub within_fits : (ps ws : List ℕ) → within ps ws ≡ true → AllFit ws → AllFit ps
within_fits [] ws e a = tt
within_fits (p ∷ ps) [] e a = never (sym e)
within_fits (p ∷ ps) (w ∷ ws) e a =
    (rw (within_parts p w ps ws e).0 at (lt_of_le_of_lt (and_le_r p w) a.0), within_fits ps ws (within_parts p w ps ws e).1 a.1)

-- ---- both: the members of both

pub has_both : (ws vs : List ℕ) (k : ℕ) → has (both ws vs) k ≡ cond (has ws k) (has vs k) false
has_both [] vs k = rw (bit_zero (k % 64))
has_both (w ∷ ws) [] k = rw (bit_zero (k % 64)) (sym (cond_false (has (w ∷ ws) k)))
has_both (w ∷ ws) (v ∷ vs) k = by (dec_lt k 64) (has_both ws vs (k - 64))
  where
    by : Dec (k < 64) → has (both ws vs) (k - 64) ≡ cond (has ws (k - 64)) (has vs (k - 64)) false → has (both (w ∷ ws) (v ∷ vs)) k ≡ cond (has (w ∷ ws) k) (has (v ∷ vs) k) false
    by (yes l) rest = has_low (bit_and w v) (both ws vs) k l ∙ bits_both w v k ∙ sym (ap₂ (λ (s t : Bool). cond s t false) (has_low w ws k l) (has_low v vs k l))
    by (no f) rest = has_past (bit_and w v) (both ws vs) k (omega arith) ∙ rest ∙ sym (ap₂ (λ (s t : Bool). cond s t false) (has_past w ws k (omega arith)) (has_past v vs k (omega arith)))

pub both_fits : (ws vs : List ℕ) → AllFit vs → AllFit (both ws vs)
both_fits [] vs a = tt
both_fits (w ∷ ws) [] a = tt
both_fits (w ∷ ws) (v ∷ vs) a = (lt_of_le_of_lt (and_le_r w v) a.0, both_fits ws vs a.1)

-- ---- one member more keeps each word within 64 bits

fit_at : (ws : List ℕ) (i : ℕ) → AllFit ws → get_or ws i 0 < 2 ^ 64
fit_at [] i a = pow_pos 64
fit_at (w ∷ ws) zero a = a.0
fit_at (w ∷ ws) (suc i) a = fit_at ws i a.1

set_fits : (ws : List ℕ) (i x : ℕ) → AllFit ws → x < 2 ^ 64 → AllFit (set ws i x)
set_fits [] i x a h = tt
set_fits (w ∷ ws) zero x a h = (h, a.1)
set_fits (w ∷ ws) (suc i) x a h = (a.0, set_fits ws i x a.1 h)

pub add_fits : (ws : List ℕ) (v : ℕ) → AllFit ws → AllFit (add ws v)
add_fits ws v a = let l : v % 64 < 64 = omega arith in set_fits ws (v / 64) _ a (or_lt 64 (get_or ws (v / 64) 0) (2 ^ (v % 64)) (fit_at ws (v / 64) a) (pow-lt l))

-- ---- a word made from a test

-- one number more
module _ (p : ℕ → Bool) (from n : ℕ) where
  pub word_more : p (from + n) ≡ true → word_of p from (n + 1) ≡ bit_or (word_of p from n) (2 ^ n)
  unfolding word_of
  word_more e = rw (add-one n, word_of, e)

  pub word_same : p (from + n) ≡ false → word_of p from (n + 1) ≡ word_of p from n
  unfolding word_of
  word_same e = rw (add-one n, word_of, e)

-- past the last number that passes nothing changes
pub word_rest : (p : ℕ → Bool) (from n m : ℕ) → ((k : ℕ) → n ≤ k → p (from + k) ≡ false) → word_of p from (n + m) ≡ word_of p from n
unfolding word_of
word_rest p from n zero f = let e : n + 0 ≡ n = omega arith in rw e
word_rest p from n (suc m) f = let e : n + suc m ≡ (n + m) + 1 = omega arith in rw e (word_same p from (n + m) (f (n + m) (omega arith)) ∙ word_rest p from n m f)

-- one number more, as a sum
word_step : (p : ℕ → Bool) (from n : ℕ) → word_of p from (suc n) ≡ one (p (from + n)) * 2 ^ n + word_of p from n
unfolding word_of one
word_step p from n = by (p (from + n))
  where
    by : (t : Bool) → cond t (bit_or (word_of p from n) (2 ^ n)) (word_of p from n) ≡ one t * 2 ^ n + word_of p from n
    by true = ap (bit_or (word_of p from n)) (sym (one-mul (2 ^ n))) ∙ or_shifted_r 1 n (word_of p from n) (word_fits p from n)
    by false = omega arith

-- two words agree where their tests do
pub word_like : (p q : ℕ → Bool) (f g n : ℕ) → ((k : ℕ) → k < n → p (f + k) ≡ q (g + k)) → word_of p f n ≡ word_of q g n
unfolding word_of
word_like p q f g zero h = refl
word_like p q f g (suc n) h =
    rw (word_step p f n, word_step q g n, h n (omega arith), word_like p q f g n (λ k l. h k (omega arith)))

-- a word of more numbers: the word of the first of them is its low bits
pub word_cat : (p : ℕ → Bool) (from n j : ℕ) → word_of p from (n + j) ≡ word_of p (from + n) j * 2 ^ n + word_of p from n
unfolding word_of
word_cat p from n zero = let e : n + 0 ≡ n = omega arith in rw e (omega arith)
word_cat p from n (suc j) =
    let e : n + suc j ≡ suc (n + j) = omega arith in
    let a : from + (n + j) ≡ from + n + j = omega arith in
    let c : n + j ≡ j + n = omega arith in
    rw (e, word_step p from (n + j), word_step p (from + n) j, a, word_cat p from n j, c, pow-add 2 j n, add-mul, mul_assoc) (sym (add_assoc _ _ _))

-- the first n numbers of 64
pub word_low : (p : ℕ → Bool) (from n : ℕ) → n ≤ 64 → word_of p from 64 % 2 ^ n ≡ word_of p from n
word_low p from n h =
    let e : 64 ≡ n + (64 - n) = omega arith in
    ap (λ (x : ℕ). word_of p from x % 2 ^ n) e ∙ rw (word_cat p from n (64 - n)) (low (word_of p (from + n) (64 - n)) n (word_fits p from n))

-- the word of a number's own bits
pub word_bits : (b n : ℕ) → word_of (bit b) 0 n ≡ b % 2 ^ n
unfolding word_of
word_bits b zero = sym (mod-one b)
word_bits b (suc n) =
    let z : 0 + n ≡ n = omega arith in
    word_step (bit b) 0 n ∙ rw (z, one_eqb (b / 2 ^ n % 2) (mod-lt (b / 2 ^ n) (omega arith)), word_bits b n, ← one-add n) (sym (mod-pow-add b 1 n))
