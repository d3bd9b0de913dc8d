-- Bytes and numbers written as digits, and read back.
use mathlib.Core.Path.{◌≡◌, refl, sym, ap, ◌∙◌}
use mathlib.Core.Bool.{true}
use mathlib.Core.List.{List, [], ◌∷◌, ◌++◌}
use mathlib.Core.Logic.{⊎_elim}
use Prim.Native.Nat.{ℕ, zero, suc, ◌+◌, ◌*◌, ◌-◌, ◌/◌, ◌%◌, ◌^◌, ◌≤◌, ◌<◌}
use native.Mathlib.Nat.{pow-suc, pow-zero}
use native.Mathlib.Omega.{arith}
use lib.ListN.{length, drop, get_or, length-append, length-drop, drop_of_length-le, get_or-append}
use lib.Seq.{drop-cons, drop_at, drop-append-add, get_or-drop, get_or_at}
use borrow.Author.Tests.{lt-ltb, le-ltb}
use Rattle.hexdigits.specs.Hex.{is_digit, digit, all_digits, byte_at, number_at, bytes_at, character, hex, bytes_of}
use Rattle.hexdigits.proofs.Digits.{Sort, sort, other, decimal, letter, lt_or_ge, decimals, letters, digit_lt, digit_in}
use Rattle.hexdigits.proofs.Bytes.{byte_lt, bytes_snoc}

-- a list of bytes
abbrev pub Bytes : List ℕ → Type 0
Bytes bs = (k : ℕ) → get_or bs k 0 < 256

pub no_bytes : Bytes []
no_bytes k = omega arith

pub one_byte : (b : ℕ) (bs : List ℕ) → b < 256 → Bytes bs → Bytes (b ∷ bs)
one_byte b bs h t zero = h
one_byte b bs h t (suc k) = t k

pub bytes_append : (bs cs : List ℕ) → Bytes bs → Bytes cs → Bytes (bs ++ cs)
bytes_append [] cs h t = t
bytes_append (b ∷ bs) cs h t = one_byte b (bs ++ cs) (h 0) (bytes_append bs cs (λ (k : ℕ). h (suc k)) t)

pub bytes_of_lem : (n x : ℕ) → Bytes (bytes_of n x)
unfolding bytes_of
bytes_of_lem zero x = no_bytes
bytes_of_lem (suc n) x = bytes_append (bytes_of n (x / 256)) (x % 256 ∷ []) (bytes_of_lem n (x / 256)) (one_byte (x % 256) [] (omega arith) no_bytes)

pub bytes_at_lem : (l : List ℕ) (i n : ℕ) → Bytes (bytes_at l i n)
unfolding bytes_at
bytes_at_lem l i zero = no_bytes
bytes_at_lem l i (suc n) = one_byte (byte_at l i) (bytes_at l (suc i) n) (byte_lt l i) (bytes_at_lem l (suc i) n)

-- a character and its value
pub value_of_character : (v : ℕ) → v < 16 → (is_digit (character v) ≡ true) × (digit (character v) ≡ v)
unfolding character
value_of_character v h =
    ⊎_elim (λ (g : v < 10). let d = decimals (v + 48) (omega arith) (omega arith) in rw (lt-ltb v 10 g) (d.0, d.1 ∙ omega arith))
    (λ (g : 10 ≤ v). let d = letters (v + 87) (omega arith) (omega arith) in rw (le-ltb v 10 g) (d.0, d.1 ∙ omega arith))
    (lt_or_ge v 10)

pub character_of_value : (c : ℕ) → is_digit c ≡ true → character (digit c) ≡ c
unfolding character
character_of_value c e = go (sort c)
  where
    go : Sort c → character (digit c) ≡ c
    go (other t d) = cc
    go (decimal h g t d) = rw (d, lt-ltb (c - 48) 10 (omega arith)) (omega arith)
    go (letter h g t d) = rw (d, le-ltb (c - 87) 10 (omega arith)) (omega arith)

-- bytes as a line
pub length_hex : (bs : List ℕ) → length (hex bs) ≡ 2 * length bs
unfolding hex
length_hex [] = refl
length_hex (b ∷ bs) = omega (arith, length_hex bs)

pub digits_hex : (bs : List ℕ) → Bytes bs → all_digits (hex bs) ≡ true
unfolding hex all_digits
digits_hex [] h = refl
digits_hex (b ∷ bs) h =
    let g : b < 256 = h 0 in
    rw ((value_of_character (b / 16) (omega arith)).0, (value_of_character (b % 16) (omega arith)).0) (digits_hex bs (λ (k : ℕ). h (suc k)))

pub byte_hex : (bs : List ℕ) → Bytes bs → (i : ℕ) → byte_at (hex bs) i ≡ get_or bs i 0
unfolding hex byte_at digit
byte_hex [] h i = refl
byte_hex (b ∷ bs) h zero =
    let g : b < 256 = h 0 in
    rw ((value_of_character (b / 16) (omega arith)).1, (value_of_character (b % 16) (omega arith)).1) (omega arith)
byte_hex (b ∷ bs) h (suc i) =
    let e : 2 * suc i ≡ suc (suc (2 * i)) = omega arith in
    let f : suc (suc (2 * i)) + 1 ≡ suc (suc (2 * i + 1)) = omega arith in
    rw (e, f) (byte_hex bs (λ (k : ℕ). h (suc k)) i)

-- the bytes after the first i of them
pub bytes_hex : (bs : List ℕ) → Bytes bs → (i n : ℕ) → length (drop i bs) ≡ n → bytes_at (hex bs) i n ≡ drop i bs
unfolding bytes_at
bytes_hex bs h i zero e = let g : length bs ≤ i = omega (arith, length-drop i bs) in sym (drop_of_length-le bs g)
bytes_hex bs h i (suc n) e =
    let g : i < length bs = omega (arith, length-drop i bs) in
    rw (drop-cons bs i 0 g, byte_hex bs h i)
    (ap (λ (t : List ℕ). get_or bs i 0 ∷ t) (bytes_hex bs h (suc i) n (omega (arith, length-drop i bs, length-drop (suc i) bs))))

-- a number in n bytes
pub length_bytes_of : (n x : ℕ) → length (bytes_of n x) ≡ n
unfolding bytes_of
length_bytes_of zero x = refl
length_bytes_of (suc n) x = length-append (bytes_of n (x / 256)) _ ∙ omega (arith, length_bytes_of n (x / 256))

spelled : (l : List ℕ) (i n x : ℕ) → x < 256 ^ n → ((k : ℕ) → k < n → byte_at l (i + k) ≡ get_or (bytes_of n x) k 0) → number_at l i n ≡ x
unfolding number_at bytes_of
spelled l i zero x h at = omega (arith, pow-zero 256)
spelled l i (suc n) x h at =
    let low : x / 256 < 256 ^ n = omega (arith, pow-suc 256 n) in
    let p = bytes_of n (x / 256) in
    let before : (k : ℕ) → k < n → byte_at l (i + k) ≡ get_or (bytes_of n (x / 256)) k 0 =
    λ k g. at k (omega arith) ∙ get_or-append (bytes_of n (x / 256)) (x % 256 ∷ []) 0 k (rw (length_bytes_of n (x / 256)) g) in
    let last : byte_at l (i + n) ≡ x % 256 = at n (omega arith) ∙ get_or_at (bytes_of n (x / 256)) (x % 256) [] 0 n (length_bytes_of n (x / 256)) in
    rw (spelled l i n (x / 256) low before, last) (omega arith)

-- the number that stands at place i of the bytes, after which others may come
pub number_hex : (bs rest : List ℕ) (i n x : ℕ) → Bytes bs → x < 256 ^ n → drop i bs ≡ bytes_of n x ++ rest → number_at (hex bs) i n ≡ x
number_hex bs rest i n x all h e =
    spelled (hex bs) i n x h
    (λ k g. byte_hex bs all (i + k) ∙ sym (get_or-drop i bs k 0) ∙ rw e (get_or-append (bytes_of n x) rest 0 k (rw (length_bytes_of n x) g)))

-- what stands k places after a number
pub past : (n x k : ℕ) (rest : List ℕ) → drop (n + k) (bytes_of n x ++ rest) ≡ drop k rest
past n x k rest = rw (length_bytes_of n x) at (drop-append-add (bytes_of n x) rest k)

pub after : (n x : ℕ) (rest : List ℕ) → drop n (bytes_of n x ++ rest) ≡ rest
after n x rest = drop_at (bytes_of n x) rest n (length_bytes_of n x)

-- back from a line: its numbers in bytes, and its bytes in digits
pub bytes_of_number : (l : List ℕ) (i n : ℕ) → bytes_of n (number_at l i n) ≡ bytes_at l i n
unfolding bytes_of number_at bytes_at
bytes_of_number l i zero = refl
bytes_of_number l i (suc n) =
    let b = byte_lt l (i + n) in
    let q : (number_at l i n * 256 + byte_at l (i + n)) / 256 ≡ number_at l i n = omega (arith, b) in
    let r : (number_at l i n * 256 + byte_at l (i + n)) % 256 ≡ byte_at l (i + n) = omega (arith, b) in
    rw (q, r, bytes_of_number l i n) (sym (bytes_snoc l i n))

two_characters : (l : List ℕ) (i : ℕ) → all_digits l ≡ true → 2 * i + 1 < length l → (character (byte_at l i / 16) ≡ get_or l (2 * i) 0) × (character (byte_at l i % 16) ≡ get_or l (2 * i + 1) 0)
unfolding byte_at
two_characters l i d h =
    let a = get_or l (2 * i) 0 in
    let b = get_or l (2 * i + 1) 0 in
    let g = digit_lt b in
    let q : (digit a * 16 + digit b) / 16 ≡ digit a = omega (arith, g) in
    let r : (digit a * 16 + digit b) % 16 ≡ digit b = omega (arith, g) in
    (rw q (character_of_value a (digit_in l d (2 * i) (omega arith))), rw r (character_of_value b (digit_in l d (2 * i + 1) (omega arith))))

pub hex_of_bytes : (l : List ℕ) → all_digits l ≡ true → (n i : ℕ) → length l ≡ 2 * (i + n) → hex (bytes_at l i n) ≡ drop (2 * i) l
unfolding hex bytes_at
hex_of_bytes l d zero i e = let g : length l ≤ 2 * i = omega arith in sym (drop_of_length-le l g)
hex_of_bytes l d (suc n) i e =
    let f = two_characters l i d (omega arith) in
    let g : suc (2 * i) ≡ 2 * i + 1 = omega arith in
    let k : suc (2 * i + 1) ≡ 2 * suc i = omega arith in
    rw (drop-cons l (2 * i) 0 (omega arith), g, drop-cons l (2 * i + 1) 0 (omega arith), k, f.0, f.1)
    (ap (λ (t : List ℕ). get_or l (2 * i) 0 ∷ get_or l (2 * i + 1) 0 ∷ t) (hex_of_bytes l d n (suc i) (omega arith)))

pub bytes_split : (l : List ℕ) (i a b : ℕ) → bytes_at l i (a + b) ≡ bytes_at l i a ++ bytes_at l (i + a) b
unfolding bytes_at
bytes_split l i zero b = let e : 0 + b ≡ b = omega arith in let f : i + 0 ≡ i = omega arith in rw (e, f)
bytes_split l i (suc a) b =
    let e : suc a + b ≡ suc (a + b) = omega arith in
    let f : i + suc a ≡ suc i + a = omega arith in
    rw (e, f) (ap (λ (t : List ℕ). byte_at l i ∷ t) (bytes_split l (suc i) a b))
