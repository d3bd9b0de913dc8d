-- Bytes and numbers of a line: their bounds, and one more of them.
use mathlib.Core.Path.{◌≡◌, refl, ap}
use mathlib.Core.Bool.{true}
use mathlib.Core.List.{List, [], ◌∷◌, ◌++◌, append-nil}
use Prim.Native.Nat.{ℕ, zero, suc, ◌+◌, ◌*◌, ◌-◌, ◌/◌, ◌%◌, ◌^◌, ◌≤◌, ◌<◌}
use native.Mathlib.Nat.{add-zero, le_refl, pow-zero, pow-suc, pow-le-pow_right}
use native.Mathlib.Numerals.{add-one}
use native.Mathlib.Omega.{arith}
use lib.ListN.{length, take, drop, get_or, set, length-drop, drop_of_length-le, get_or-eq_default}
use lib.Seq.{take-length, drop-cons, get_or-drop, set_at, append_snoc}
use Rattle.hexdigits.specs.Hex.{is_digit, digit, all_digits, byte_at, number_at, bytes_at}
use Rattle.hexdigits.proofs.Digits.{digit_lt, digit_small, digit_in}

pub byte_lt : (l : List ℕ) (i : ℕ) → byte_at l i < 256
unfolding byte_at
byte_lt l i = omega (arith, digit_lt (get_or l (2 * i) 0), digit_lt (get_or l (2 * i + 1) 0))

-- past a line's end a byte is 0
pub byte_past : (l : List ℕ) (i : ℕ) → length l ≤ 2 * i → 0 ≡ byte_at l i
unfolding byte_at digit
byte_past l i h =
    let g : length l ≤ 2 * i + 1 = omega arith in
    rw (get_or-eq_default {A = ℕ} l 0 h, get_or-eq_default {A = ℕ} l 0 g)

-- the byte at place i of a line of digits, from its two characters in one number
pub pair_digits : (l : List ℕ) (i p : ℕ) → all_digits l ≡ true → 2 * i + 1 < length l → p ≡ get_or l (2 * i) 0 + get_or l (2 * i + 1) 0 * 256 → (is_digit (p % 256) ≡ true) × (is_digit (p / 256) ≡ true) × (digit (p % 256) * 16 + digit (p / 256) ≡ byte_at l i)
unfolding byte_at
pair_digits l i p d h e =
    let a = digit_in l d (2 * i) (omega arith) in
    let b = digit_in l d (2 * i + 1) h in
    let g = digit_small (get_or l (2 * i) 0) a in
    let q : p % 256 ≡ get_or l (2 * i) 0 = omega arith in
    let r : p / 256 ≡ get_or l (2 * i + 1) 0 = omega arith in
    rw (q, r) (a, b, refl)

-- a number of n bytes fits n bytes, and one of fewer than eight leaves room for one more in 64 bits
pub number_lt : (l : List ℕ) (i n : ℕ) → number_at l i n < 256 ^ n
unfolding number_at
number_lt l i zero = rw (pow-zero 256) (omega arith)
number_lt l i (suc n) =
    let e : number_at l i (suc n) ≡ number_at l i n * 256 + byte_at l (i + n) = refl in
    omega (arith, number_lt l i n, byte_lt l (i + n), pow-suc 256 n, e)

pub room : (l : List ℕ) (i k : ℕ) → k < 8 → number_at l i k < 72057594037927936
room l i k h =
    let a : k ≤ 7 = omega arith in
    let e : 256 ^ k ≤ 256 ^ 7 = pow-le-pow_right {n = 256} (omega arith) a in
    omega (arith, number_lt l i k)

pub one_more : (l : List ℕ) (i k n b : ℕ) → n ≡ number_at l i k → b ≡ byte_at l (i + k) → n * 256 + b ≡ number_at l i (k + 1)
unfolding number_at
one_more l i k n b p q = rw (add-one k, p, q)

pub length_bytes : (l : List ℕ) (i n : ℕ) → length (bytes_at l i n) ≡ n
unfolding bytes_at
length_bytes l i zero = refl
length_bytes l i (suc n) = ap suc (length_bytes l (suc i) n)

pub bytes_snoc : (l : List ℕ) (i n : ℕ) → bytes_at l i (suc n) ≡ bytes_at l i n ++ (byte_at l (i + n) ∷ [])
unfolding bytes_at
bytes_snoc l i zero = let e : i + 0 ≡ i = omega arith in rw e
bytes_snoc l i (suc n) =
    let e : i + suc n ≡ suc i + n = omega arith in
    rw e (ap (λ (t : List ℕ). byte_at l i ∷ t) (bytes_snoc l (suc i) n))

-- a buffer that holds the first i of them gets the next
pub more_bytes : (l out b : List ℕ) (k i v : ℕ) → i < length b → out ≡ bytes_at l k i ++ drop i b → v ≡ byte_at l (k + i) → set out i v ≡ bytes_at l k (i + 1) ++ drop (i + 1) b
more_bytes l out b k i v h e f = rw (e, f, drop-cons b i 0 h, add-one i, bytes_snoc, append_snoc) (set_at (bytes_at l k i) _ _ _ i (length_bytes l k i))

pub all_bytes : (l b : List ℕ) (k i : ℕ) → i ≡ length b → bytes_at l k i ++ drop i b ≡ bytes_at l k (length b)
all_bytes l b k i e = rw (e, drop_of_length-le b (le_refl (length b)), append-nil)

-- the bytes of a line from a place on are the bytes of the part that begins there
byte_in_part : (l : List ℕ) (from i : ℕ) → byte_at (drop (2 * from) l) i ≡ byte_at l (from + i)
unfolding byte_at
byte_in_part l from i =
    let e : 2 * from + 2 * i ≡ 2 * (from + i) = omega arith in
    let f : 2 * from + (2 * i + 1) ≡ 2 * (from + i) + 1 = omega arith in
    simp (get_or-drop, e, f)

bytes_in_part : (l : List ℕ) (from i n : ℕ) → bytes_at (drop (2 * from) l) i n ≡ bytes_at l (from + i) n
unfolding bytes_at
bytes_in_part l from i zero = refl
bytes_in_part l from i (suc n) =
    let e : suc (from + i) ≡ from + suc i = omega arith in
    rw (e, byte_in_part l from i, bytes_in_part l from (suc i) n)

pub bytes_of_part : (l : List ℕ) (from n : ℕ) → bytes_at (take (length l - 2 * from) (drop (2 * from) l)) 0 n ≡ bytes_at l from n
bytes_of_part l from n = rw (← length-drop (2 * from) l, take-length) (rw add-zero at (bytes_in_part l from 0 n))
