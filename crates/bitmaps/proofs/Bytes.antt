-- The claims on the slots of a bitmap's bytes, as words: a byte's are the byte itself.
use mathlib.Core.Path.{◌≡◌, ◌∙◌}
use mathlib.Core.List.{List}
use Prim.Native.Nat.{ℕ, suc, ◌+◌, ◌-◌, ◌*◌, ◌/◌, ◌%◌, ◌^◌, ◌≤◌, ◌<◌}
use native.Mathlib.Nat.{mod-eq_of_lt, one-mul}
use native.Mathlib.Omega.{arith}
use lib.ListN.{length, get_or}
use lib.Pow.{shl_exact}
use mir.Syntax.{w8}
use mir.Val.{Fits}
use Rattle.tables.specs.Sets.{bit, claimed, word_of}
use Rattle.tables.proofs.Bitmap.{past_the_end}
use Rattle.tables.proofs.Sets.{word_fits}
use Rattle.tables.proofs.Words.{word_rest, word_like, word_cat, word_bits}

-- the mask of n slots, as the machine shifts it
pub mask_is : (n : ℕ) → n < 64 → 1 * 2 ^ n % 2 ^ 64 ≡ 2 ^ n
mask_is n h = shl_exact 1 n 64 (omega arith) (omega arith) ∙ one-mul (2 ^ n)

-- ---- a byte is the word of its own bits

module _ (bitmap : List ℕ) (k : ℕ) where
  word_byte : get_or bitmap k 0 < 256 → word_of (claimed bitmap) (8 * k) 8 ≡ get_or bitmap k 0
  word_byte h = word_like (claimed bitmap) (bit (get_or bitmap k 0)) (8 * k) 0 8 at ∙ word_bits (get_or bitmap k 0) 8 ∙ mod-eq_of_lt h
    where
      at : (s : ℕ) → s < 8 → claimed bitmap (8 * k + s) ≡ bit (get_or bitmap k 0) (0 + s)
      at s l =
          let d : (8 * k + s) / 8 ≡ k = omega arith in
          let m : (8 * k + s) % 8 ≡ 0 + s = omega arith in
          rw (d, m)

  -- the byte at place k, in front of what follows it
  word_front : (n : ℕ) → get_or bitmap k 0 < 256 → word_of (claimed bitmap) (8 * k) (8 + n) ≡ word_of (claimed bitmap) (8 * (k + 1)) n * 256 + get_or bitmap k 0
  word_front n h =
      let e : 8 * k + 8 ≡ 8 * (k + 1) = omega arith in
      word_cat (claimed bitmap) (8 * k) 8 n ∙ rw (e, word_byte h)

-- ---- from the bitmap's end on nothing is claimed

module _ (bitmap : List ℕ) (k : ℕ) where
  pub word_ended : (n : ℕ) → length bitmap ≤ k → word_of (claimed bitmap) (8 * k) n ≡ 0
  unfolding word_of
  word_ended n h = let z : 0 + n ≡ n = omega arith in rw (← z) (word_rest (claimed bitmap) (8 * k) 0 n (λ s l. past_the_end bitmap (8 * k + s) (omega arith)))

  -- where at most seven bytes are left, their slots fit 56 bits, so that one byte more has room in front of them
  word_short : length bitmap ≤ k + 7 → word_of (claimed bitmap) (8 * k) 64 ≡ word_of (claimed bitmap) (8 * k) 56
  word_short h = word_rest (claimed bitmap) (8 * k) 56 8 (λ s l. past_the_end bitmap (8 * k + s) (omega arith))

  pub short_fits : length bitmap ≤ k + 7 → word_of (claimed bitmap) (8 * k) 64 < 2 ^ 56
  short_fits h = rw (word_short h) (word_fits (claimed bitmap) (8 * k) 56)

  -- the byte before place k, in front
  pub word_back : 0 < k → length bitmap ≤ k + 7 → get_or bitmap (k - 1) 0 < 256 → word_of (claimed bitmap) (8 * (k - 1)) 64 ≡ word_of (claimed bitmap) (8 * k) 64 * 256 + get_or bitmap (k - 1) 0
  word_back z h l =
      let e : k - 1 + 1 ≡ k = omega arith in
      word_front bitmap (k - 1) 56 l ∙ rw (e, word_short h)

-- ---- eight bytes

-- the eight bytes from place k on are each below 256
abbrev pub Eight : List ℕ → ℕ → Type 0
Eight m k =
    (get_or m k 0 < 256) × (get_or m (k + 1) 0 < 256) × (get_or m (k + 2) 0 < 256) × (get_or m (k + 3) 0 < 256)
    × (get_or m (k + 4) 0 < 256) × (get_or m (k + 5) 0 < 256) × (get_or m (k + 6) 0 < 256) × (get_or m (k + 7) 0 < 256)

pub eight_below : (m : List ℕ) (k : ℕ) → ((i : ℕ) → Fits w8 (get_or m i 0)) → Eight m k
eight_below m k b = ((b k).fits, (b (k + 1)).fits, (b (k + 2)).fits, (b (k + 3)).fits, (b (k + 4)).fits, (b (k + 5)).fits, (b (k + 6)).fits, (b (k + 7)).fits)

pub word_eight : (m : List ℕ) (k : ℕ) → Eight m k
    → get_or m k 0 + get_or m (k + 1) 0 * 256 + get_or m (k + 2) 0 * 65536 + get_or m (k + 3) 0 * 16777216 + get_or m (k + 4) 0 * 4294967296
    + get_or m (k + 5) 0 * 1099511627776 + get_or m (k + 6) 0 * 281474976710656 + get_or m (k + 7) 0 * 72057594037927936 ≡ word_of (claimed m) (8 * k) 64
word_eight m k b =
    omega (arith, word_front m k 56 b.0, at 1 48 b.1, at 2 40 b.2, at 3 32 b.3, at 4 24 b.4, at 5 16 b.5, at 6 8 b.6, word_byte m (k + 7) b.7)
  where
    at : (j n : ℕ) → get_or m (k + j) 0 < 256 → word_of (claimed m) (8 * (k + j)) (8 + n) ≡ word_of (claimed m) (8 * (k + suc j)) n * 256 + get_or m (k + j) 0
    at j n h = let e : k + suc j ≡ k + j + 1 = omega arith in rw e (word_front m (k + j) n h)
