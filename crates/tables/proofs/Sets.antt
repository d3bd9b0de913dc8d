-- Laws of node sets: two majorities meet; and over any number of words members and counts of ones, and one member more.
use mathlib.Core.Path.{◌≡◌, refl, sym, ap, ap₂, ◌∙◌}
use mathlib.Core.Logic.{◌↔◌, ◌⊎◌, inl, inr, ⊎_elim}
use mathlib.Core.Bool.{Bool, true, false, ◌||◌, cond, or-false}
use mathlib.Core.List.{List, [], ◌∷◌}
use Prim.Native.Nat.{ℕ, zero, suc, ◌+◌, ◌-◌, ◌*◌, ◌/◌, ◌%◌, ◌^◌, ◌≤◌, ◌<◌}
use native.Mathlib.Omega.{arith}
use native.Mathlib.Decide.{dec_lt, ℕ_discrete}
use native.Mathlib.Nat.{mod-one, mod-lt, mod-eq_of_lt, pow-suc, mul-mod_left, div-eq_of_lt, div_self, add-zero, add-suc, lt_trans}
use borrow.Author.Tests.{eq-eqb, ne_eqb, lt-ltb, le-ltb, ltb-true}
use lib.Dec.{eqb, ltb}
use lib.Count.{ones, ones_cat}
use lib.Bits.{bit_or, or_shr, or_mod, or_lt}
use lib.Pow.{pow_pos, mod-pow-add, pow-lt, pow-add, shl-shr}
use lib.ListN.{length, get_or}
use lib.Seq.{get_or-set_same, get_or-set_other}
use Rattle.tables.specs.Below.{count}
use Rattle.tables.specs.Sets.{bit, has, add, size, AllFit, majority, word_of, words_from}
use Rattle.tables.specs.Majorities.{Within, Majority, Meet, MajoritiesMeet}
use Rattle.tables.proofs.Below.{count_like}
use Rattle.tables.proofs.Groups.{first_group, later_group}

-- ---- two majorities of one set meet, for sets as tests

-- 1 for a test that passes, and 0
unfoldable pub one : Bool → ℕ
one true = 1
one false = 0

count_step : (p : ℕ → Bool) (n : ℕ) → count p (suc n) ≡ one (p n) + count p n
unfolding count one
count_step p n = by (p n) (count p n)
  where
    by : (t : Bool) (c : ℕ) → cond t (c + 1) c ≡ one t + c
    by true c = omega arith
    by false c = omega arith

-- at one number: in both, or the two count no more than s there
at : (a b s : Bool) → (a ≡ true → s ≡ true) → (b ≡ true → s ≡ true) → ((a ≡ true) × (b ≡ true)) ⊎ (one a + one b ≤ one s)
unfolding one
at true true s f g = inl (refl, refl)
at true false s f g = inr (rw (f refl) (omega arith))
at false true s f g = inr (rw (g refl) (omega arith))
at false false s f g = inr (omega arith)

apart : (a b s : ℕ → Bool) → Within a s → Within b s → (n : ℕ) → Meet a b ⊎ (count a n + count b n ≤ count s n)
unfolding count
apart a b s f g zero = inr (omega arith)
apart a b s f g (suc n) = go (at (a n) (b n) (s n) (f n) (g n)) (apart a b s f g n)
  where
    go : ((a n ≡ true) × (b n ≡ true)) ⊎ (one (a n) + one (b n) ≤ one (s n)) → Meet a b ⊎ (count a n + count b n ≤ count s n)
        → Meet a b ⊎ (count a (suc n) + count b (suc n) ≤ count s (suc n))
    go (inl m) rest = inl (n, m.0, m.1)
    go (inr l) (inl m) = inl m
    go (inr l) (inr r) = inr (rw (count_step a n, count_step b n, count_step s n) (omega arith))

pub majorities_meet : (n : ℕ) (whole a b : ℕ → Bool) → MajoritiesMeet n whole a b
majorities_meet n whole a b f g p q = ⊎_elim (λ m. m) (λ l. absurd (omega arith)) (apart a b whole f g n)

-- ---- the members of a word are counted by its ones

pub one_eqb : (r : ℕ) → r < 2 → one (eqb r 1) ≡ r
unfolding one
one_eqb zero h = refl
one_eqb (suc zero) h = refl
one_eqb (suc (suc r)) h = absurd (omega arith)

ones_bit : (r : ℕ) → r < 2 → ones r ≡ r
unfolding ones
ones_bit zero h = refl
ones_bit (suc zero) h = refl
ones_bit (suc (suc r)) h = absurd (omega arith)

count_low : (w n : ℕ) → count (bit w) n ≡ ones (w % 2 ^ n)
unfolding ones count
count_low w zero = sym (ap ones (mod-one w))
count_low w (suc n) =
    count_step (bit w) n
    ∙ ap₂ (λ (x y : ℕ). x + y) (one_eqb (w / 2 ^ n % 2) (mod-lt w/ two_pos) ∙ sym (ones_bit (w / 2 ^ n % 2) (mod-lt w/ two_pos))) (count_low w n)
    ∙ sym (ones_cat n (w / 2 ^ n % 2 ^ 1) (w % 2 ^ n) (mod-lt w (pow_pos n)))
    ∙ ap ones (sym (mod-pow-add w 1 n))
    ∙ ap (λ (x : ℕ). ones (w % 2 ^ x)) (one_add n)
  where
    w/ : ℕ
    w/ = w / 2 ^ n

    two_pos : 0 < 2
    two_pos = omega arith

    one_add : (m : ℕ) → 1 + m ≡ suc m
    one_add m = omega arith

count_ones : (n w : ℕ) → w < 2 ^ n → count (bit w) n ≡ ones w
count_ones n w h = count_low w n ∙ ap ones (mod-eq_of_lt h)

count_split : (p : ℕ → Bool) (a m : ℕ) → count p (a + m) ≡ count p a + count (λ k. p (a + k)) m
unfolding count
count_split p a zero = rw add-zero (sym (add-zero (count p a)))
count_split p a (suc m) = rw (add-suc a m, count_step p (a + m), count_step (λ k. p (a + k)) m) (omega (arith, count_split p a m))

pub has_low : (w : ℕ) (ws : List ℕ) (k : ℕ) → k < 64 → has (w ∷ ws) k ≡ bit w k
has_low = first_group 64

pub has_high : (w : ℕ) (ws : List ℕ) (k : ℕ) → has (w ∷ ws) (64 + k) ≡ has ws k
has_high = later_group 64 (omega arith)

pub count_size : (ws : List ℕ) → AllFit ws → count (has ws) (64 * length ws) ≡ size ws
unfolding count
count_size [] f = refl
count_size (w ∷ ws) f =
    ap (count (has (w ∷ ws))) (times (length ws))
    ∙ count_split (has (w ∷ ws)) 64 (64 * length ws)
    ∙ ap₂ (λ (x y : ℕ). x + y)
    (count_like (has (w ∷ ws)) (bit w) 64 (has_low w ws) ∙ count_ones 64 w f.0)
    (count_like (λ k. has (w ∷ ws) (64 + k)) (has ws) (64 * length ws) (λ k h. has_high w ws k) ∙ count_size ws f.1)
  where
    times : (m : ℕ) → 64 * suc m ≡ 64 + 64 * m
    times m = omega arith

-- ---- one bit more

or_digit : (r s : ℕ) → r < 2 → s < 2 → eqb (bit_or r s) 1 ≡ (eqb r 1 || eqb s 1)
or_digit zero s h g = refl
or_digit (suc zero) zero h g = refl
or_digit (suc zero) (suc zero) h g = refl
or_digit (suc zero) (suc (suc s)) h g = absurd (omega arith)
or_digit (suc (suc r)) s h g = absurd (omega arith)

bit_or_lem : (a b k : ℕ) → bit (bit_or a b) k ≡ (bit a k || bit b k)
bit_or_lem a b k =
    ap (λ (x : ℕ). eqb (x % 2) 1) (or_shr a b k)
    ∙ ap (λ (x : ℕ). eqb x 1) (or_mod (a / 2 ^ k) (b / 2 ^ k) 1)
    ∙ or_digit (a / 2 ^ k % 2) (b / 2 ^ k % 2) (mod-lt (a / 2 ^ k) two) (mod-lt (b / 2 ^ k) two)
  where
    two : 0 < 2
    two = omega arith

-- the bits of 2 ^ v: v alone
pub bit_power : (v k : ℕ) → bit (2 ^ v) k ≡ eqb k v
bit_power v k = go (dec_lt v k) (dec_lt k v)
  where
    even : k < v → 2 ^ v / 2 ^ k % 2 ≡ 0
    even h =
        let d : v ≡ suc (v - suc k) + k = omega arith in
        let e : 2 ^ v ≡ 2 ^ (v - suc k) * 2 * 2 ^ k = ap (λ (x : ℕ). 2 ^ x) d ∙ pow-add 2 (suc (v - suc k)) k ∙ ap (λ (x : ℕ). x * 2 ^ k) (pow-suc 2 (v - suc k)) in
        ap (λ (x : ℕ). x / 2 ^ k % 2) e ∙ ap (λ (x : ℕ). x % 2) (shl-shr (2 ^ (v - suc k) * 2) k) ∙ mul-mod_left (2 ^ (v - suc k)) 2

    none : 2 ^ v / 2 ^ k % 2 ≡ 0 → (k ≡ v → ⊥) → bit (2 ^ v) k ≡ eqb k v
    none z ne = ap (λ (x : ℕ). eqb x 1) z ∙ sym (ne_eqb k v ne)

    go : Dec (v < k) → Dec (k < v) → bit (2 ^ v) k ≡ eqb k v
    go (yes h) g = none (ap (λ (x : ℕ). x % 2) (div-eq_of_lt (pow-lt h))) (λ e. omega arith)
    go (no f) (yes h) = none (even h) (λ e. omega arith)
    go (no f) (no g) =
        let e : k ≡ v = omega arith in
        let o : 2 ^ v / 2 ^ v ≡ 1 = div_self (pow_pos v) in
        rw (e, o) (sym (eq-eqb v v refl))

pub bit_zero : (k : ℕ) → bit 0 k ≡ false
bit_zero k = let z : 0 / 2 ^ k ≡ 0 = div-eq_of_lt (pow_pos k) in rw z

-- past a word's width there is no bit
pub bit_past : (n w k : ℕ) → w < 2 ^ n → n ≤ k → bit w k ≡ false
bit_past n w k h g = let z : w / 2 ^ k ≡ 0 = div-eq_of_lt (by (dec_lt n k)) in rw z
  where
    by : Dec (n < k) → w < 2 ^ k
    by (yes l) = lt_trans h (pow-lt l)
    by (no f) = let e : n ≡ k = omega arith in rw e at h

bit_added : (m v k : ℕ) → bit (bit_or m (2 ^ v)) k ≡ (bit m k || eqb k v)
bit_added m v k = bit_or_lem m (2 ^ v) k ∙ ap (λ (b : Bool). bit m k || b) (bit_power v k)

-- ---- one member more

-- the members of the set with v: those of the set, and v
pub has_add : (ws : List ℕ) (v k : ℕ) → v / 64 < length ws → has (add ws v) k ≡ (has ws k || eqb k v)
has_add ws v k h = go (ℕ_discrete (k / 64) (v / 64))
  where
    w : ℕ
    w = get_or ws (v / 64) 0

    same : k / 64 ≡ v / 64 → eqb (k % 64) (v % 64) ≡ eqb k v
    same e = by (ℕ_discrete (k % 64) (v % 64))
      where
        by : Dec (k % 64 ≡ v % 64) → eqb (k % 64) (v % 64) ≡ eqb k v
        by (yes q) = eq-eqb _ _ q ∙ sym (eq-eqb k v (omega arith))
        by (no q) = ne_eqb _ _ q ∙ sym (ne_eqb k v (λ r. q (ap (λ (x : ℕ). x % 64) r)))

    go : Dec (k / 64 ≡ v / 64) → has (add ws v) k ≡ (has ws k || eqb k v)
    go (yes e) =
        ap (λ (x : ℕ). bit (get_or (add ws v) x 0) (k % 64)) e
        ∙ ap (λ (x : ℕ). bit x (k % 64)) (get_or-set_same ws (v / 64) (bit_or w (2 ^ (v % 64))) 0 h)
        ∙ bit_added w (v % 64) (k % 64)
        ∙ ap₂ (λ (x : ℕ) (b : Bool). bit (get_or ws x 0) (k % 64) || b) (sym e) (same e)
    go (no n) =
        ap (λ (x : ℕ). bit x (k % 64)) (get_or-set_other ws (v / 64) (k / 64) (bit_or w (2 ^ (v % 64))) 0 n)
        ∙ sym (or-false (has ws k))
        ∙ ap (λ (b : Bool). has ws k || b) (sym (ne_eqb k v (λ r. n (ap (λ (x : ℕ). x / 64) r))))

-- ---- a set made from a test

pub cond_false : (t : Bool) → cond t false false ≡ false
cond_false true = refl
cond_false false = refl

pub bit_word : (p : ℕ → Bool) (from n k : ℕ) → bit (word_of p from n) k ≡ cond (ltb k n) (p (from + k)) false
unfolding word_of
bit_word p from zero k = bit_zero k ∙ rw (le-ltb k 0 (omega arith))
bit_word p from (suc n) k = by (p (from + n)) refl (bit_word p from n k)
  where
    join : (t : Bool) → t ≡ p (from + n) → Dec (k < n) → Dec (k ≡ n) → (cond (ltb k n) (p (from + k)) false || cond t (eqb k n) false) ≡ cond (ltb k (suc n)) (p (from + k)) false
    join t e (yes h) d = rw (lt-ltb k n h, lt-ltb k (suc n) (omega arith), ne_eqb k n (λ q. omega arith), cond_false t) (or-false (p (from + k)))
    join t e (no f) (yes q) = rw (le-ltb k n (omega arith), lt-ltb k (suc n) (omega arith), eq-eqb k n q, q, ← e) (only t)
      where
        only : (b : Bool) → cond b true false ≡ b
        only true = refl
        only false = refl
    join t e (no f) (no g) = rw (le-ltb k n (omega arith), le-ltb k (suc n) (omega arith), ne_eqb k n g) (cond_false t)

    by : (t : Bool) → t ≡ p (from + n) → bit (word_of p from n) k ≡ cond (ltb k n) (p (from + k)) false → bit (cond t (bit_or (word_of p from n) (2 ^ n)) (word_of p from n)) k ≡ cond (ltb k (suc n)) (p (from + k)) false
    by true e was = bit_added (word_of p from n) n k ∙ ap (λ (b : Bool). b || eqb k n) was ∙ join true e (dec_lt k n) (ℕ_discrete k n)
    by false e was = was ∙ sym (or-false (cond (ltb k n) (p (from + k)) false)) ∙ join false e (dec_lt k n) (ℕ_discrete k n)

-- the members of a set of n words made from a test: the numbers below 64 n that pass
pub has_words : (p : ℕ → Bool) (from n k : ℕ) → has (words_from p from n) k ≡ cond (ltb k (64 * n)) (p (from + k)) false
unfolding words_from
has_words p from zero k = bit_zero (k % 64) ∙ rw (le-ltb k (64 * 0) (omega arith))
has_words p from (suc n) k = by (dec_lt k 64) (has_words p (from + 64) n (k - 64))
  where
    by : Dec (k < 64) → has (words_from p (from + 64) n) (k - 64) ≡ cond (ltb (k - 64) (64 * n)) (p (from + 64 + (k - 64))) false → has (word_of p from 64 ∷ words_from p (from + 64) n) k ≡ cond (ltb k (64 * suc n)) (p (from + k)) false
    by (yes h) rest =
        has_low (word_of p from 64) (words_from p (from + 64) n) k h
        ∙ bit_word p from 64 k
        ∙ rw (lt-ltb k 64 h, lt-ltb k (64 * suc n) (omega arith))
    by (no f) rest =
        let e : k ≡ 64 + (k - 64) = omega arith in
        ap (has (word_of p from 64 ∷ words_from p (from + 64) n)) e
        ∙ has_high (word_of p from 64) (words_from p (from + 64) n) (k - 64)
        ∙ rest
        ∙ ap₂ (λ (b : Bool) (x : ℕ). cond b (p x) false) (later (dec_lt (k - 64) (64 * n))) (omega arith)
      where
        later : Dec (k - 64 < 64 * n) → ltb (k - 64) (64 * n) ≡ ltb k (64 * suc n)
        later (yes l) = lt-ltb _ _ l ∙ sym (lt-ltb k (64 * suc n) (omega arith))
        later (no l) = le-ltb (k - 64) (64 * n) (omega arith) ∙ sym (le-ltb k (64 * suc n) (omega arith))

pub word_fits : (p : ℕ → Bool) (from n : ℕ) → word_of p from n < 2 ^ n
unfolding word_of
word_fits p from zero = omega arith
word_fits p from (suc n) = by (p (from + n)) (word_fits p from n)
  where
    by : (t : Bool) → word_of p from n < 2 ^ n → cond t (bit_or (word_of p from n) (2 ^ n)) (word_of p from n) < 2 ^ suc n
    by true h = or_lt (suc n) (word_of p from n) (2 ^ n) (lt_trans h (pow-lt (omega arith))) (pow-lt (omega arith))
    by false h = lt_trans h (pow-lt (omega arith))

pub words_fit : (p : ℕ → Bool) (from n : ℕ) → AllFit (words_from p from n)
unfolding words_from
words_fit p from zero = tt
words_fit p from (suc n) = (word_fits p from 64, words_fit p (from + 64) n)

-- ---- majorities by counts of ones

pub majority_counts : (voters heard : List ℕ) → AllFit voters → AllFit heard → length heard ≡ length voters
    → (majority voters heard ≡ true) ↔ Majority (64 * length voters) (has heard) (has voters)
majority_counts voters heard f g l =
    let c : count (has heard) (64 * length voters) ≡ size heard = rw (← l) (count_size heard g) in
    rw (count_size voters f, c) (ltb-true (size voters) (2 * size heard), lt-ltb (size voters) (2 * size heard))
