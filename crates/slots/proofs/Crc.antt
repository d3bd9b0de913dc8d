-- Why a byte at a time by the table is eight bits at a time: a move of the remainder goes through xor.
use mathlib.Core.Path.{◌≡◌, refl, sym, ap, ap₂, ◌∙◌}
use mathlib.Core.List.{List, []}
use Prim.Native.Nat.{ℕ, zero, suc, ◌+◌, ◌*◌, ◌/◌, ◌%◌, ◌^◌, ◌≤◌, ◌<◌}
use mathlib.Core.Bool.{Bool, true}
use native.Mathlib.Nat.{le_of_suc-le-suc, not-suc-le-zero, div-add-mod', add-zero, zero-add, mul-one}
use native.Mathlib.Omega.{arith}
use native.Mathlib.Numerals.{add-one}
use lib.Dec.{eqb}
use lib.Arith.{bin_ind, digits_mod}
use lib.Bits.{bit_xor, differ, xor_step, xor_lt, xor_comm, xor_shr, xor_mod, xor_block, xor_shifted, xor_zero_r}
use Rattle.std.specs.Simd.{first_chunks}
use lib.ListN.{length, drop, get_or, drop_of_length-le}
use lib.Seq.{drop-cons}
use borrow.Author.Tests.{eqb-true}
use Rattle.tables.specs.Below.{every}
use Rattle.slots.specs.Key.{polynomial, with_bit, with_bits, with_byte, with_bytes}
use Rattle.slots.specs.Table.{ByHalfByte}
use Rattle.tables.proofs.Below.{each}
use Rattle.std.proofs.lemmas.List.{get_or-drop, get_or-take}

bits_assoc : (x y z : ℕ) → x < 2 → y < 2 → z < 2 → differ (differ x y) z ≡ differ x (differ y z)
bits_assoc zero y z hx hy hz = refl
bits_assoc (suc zero) zero z hx hy hz = refl
bits_assoc (suc zero) (suc zero) zero hx hy hz = refl
bits_assoc (suc zero) (suc zero) (suc zero) hx hy hz = refl
bits_assoc (suc zero) (suc zero) (suc (suc z)) hx hy hz = absurd (not-suc-le-zero (le_of_suc-le-suc (le_of_suc-le-suc hz)))
bits_assoc (suc zero) (suc (suc y)) z hx hy hz = absurd (not-suc-le-zero (le_of_suc-le-suc (le_of_suc-le-suc hy)))
bits_assoc (suc (suc x)) y z hx hy hz = absurd (not-suc-le-zero (le_of_suc-le-suc (le_of_suc-le-suc hx)))

differ_bit : (x y : ℕ) → x < 2 → y < 2 → differ x y < 2
differ_bit zero y hx hy = hy
differ_bit (suc zero) zero hx hy = hx
differ_bit (suc zero) (suc y) hx hy = omega arith
differ_bit (suc (suc x)) y hx hy = absurd (not-suc-le-zero (le_of_suc-le-suc (le_of_suc-le-suc hx)))

half : (a b : ℕ) → bit_xor a b / 2 ≡ bit_xor (a / 2) (b / 2)
half a b = xor_shr a b 1

odd : (a b : ℕ) → bit_xor a b % 2 ≡ differ (a % 2) (b % 2)
odd a b = rw xor_step (digits_mod (bit_xor (a / 2) (b / 2)) (differ_bit (a % 2) (b % 2) (omega arith) (omega arith)))

xor_assoc : (a b c : ℕ) → bit_xor (bit_xor a b) c ≡ bit_xor a (bit_xor b c)
xor_assoc =
    bin_ind (λ (n : ℕ). (b c : ℕ) → bit_xor (bit_xor n b) c ≡ bit_xor n (bit_xor b c)) (λ b c. refl)
    (λ n ih b c.
    xor_step (bit_xor n b) c
    ∙ ap₂ (λ (x y : ℕ). x * 2 + y)
    (ap (λ (x : ℕ). bit_xor x (c / 2)) (half n b) ∙ ih (b / 2) (c / 2) ∙ ap (bit_xor (n / 2)) (sym (half b c)))
    (ap (λ (x : ℕ). differ x (c % 2)) (odd n b) ∙ bits_assoc (n % 2) (b % 2) (c % 2) (omega arith) (omega arith) (omega arith) ∙ ap (differ (n % 2)) (sym (odd b c)))
    ∙ sym (xor_step n (bit_xor b c)))

-- the inner two of four change places
exchange : (a b c d : ℕ) → bit_xor (bit_xor a b) (bit_xor c d) ≡ bit_xor (bit_xor a c) (bit_xor b d)
exchange a b c d =
    xor_assoc a b (bit_xor c d)
    ∙ ap (bit_xor a) (sym (xor_assoc b c d) ∙ ap (λ (x : ℕ). bit_xor x d) (xor_comm b c) ∙ xor_assoc c b d)
    ∙ sym (xor_assoc a c (bit_xor b d))

poly : (t u : ℕ) → t < 2 → u < 2 → bit_xor t u * polynomial ≡ bit_xor (t * polynomial) (u * polynomial)
poly zero u ht hu = refl
poly (suc zero) zero ht hu = refl
poly (suc zero) (suc zero) ht hu = refl
poly (suc zero) (suc (suc u)) ht hu = absurd (not-suc-le-zero (le_of_suc-le-suc (le_of_suc-le-suc hu)))
poly (suc (suc t)) u ht hu = absurd (not-suc-le-zero (le_of_suc-le-suc (le_of_suc-le-suc ht)))

twice : (a b : ℕ) → bit_xor a b * 2 ≡ bit_xor (a * 2) (b * 2)
twice a b =
    sym (ap₂ bit_xor (sym (add-zero (a * 2))) (sym (add-zero (b * 2))) ∙ xor_block 1 a b 0 0 (omega arith) (omega arith) ∙ add-zero (bit_xor a b * 2))

doubled : (a b : ℕ) → bit_xor a b * 2 % 65536 ≡ bit_xor (a * 2 % 65536) (b * 2 % 65536)
doubled a b = ap (λ (x : ℕ). x % 65536) (twice a b) ∙ xor_mod (a * 2) (b * 2) 16

linear : (a b : ℕ) → a < 65536 → b < 65536 → with_bit (bit_xor a b) ≡ bit_xor (with_bit a) (with_bit b)
unfolding with_bit
linear a b ha hb =
    ap₂ bit_xor (doubled a b) (ap (λ (x : ℕ). x * polynomial) (xor_shr a b 15) ∙ poly (a / 32768) (b / 32768) (omega arith) (omega arith))
    ∙ exchange (a * 2 % 65536) (b * 2 % 65536) (a / 32768 * polynomial) (b / 32768 * polynomial)

pub small : (c : ℕ) → c < 65536 → with_bit c < 65536
unfolding with_bit
small c h = xor_lt 16 (c * 2 % 65536) (c / 32768 * polynomial) (omega arith) (omega arith)

smalls : (n c : ℕ) → c < 65536 → with_bits n c < 65536
unfolding with_bits
smalls zero c h = h
smalls (suc n) c h = small (with_bits n c) (smalls n c h)

linears : (n a b : ℕ) → a < 65536 → b < 65536 → with_bits n (bit_xor a b) ≡ bit_xor (with_bits n a) (with_bits n b)
unfolding with_bits
linears zero a b ha hb = refl
linears (suc n) a b ha hb = ap with_bit (linears n a b ha hb) ∙ linear (with_bits n a) (with_bits n b) (smalls n a ha) (smalls n b hb)

-- what eight bits make of a byte at the bottom is a move to the top
lowers : every 256 (λ (k : ℕ). eqb (with_bits 8 k) (k * 256)) ≡ true
unfolding every with_bits with_bit
lowers = refl

lower : (k : ℕ) → k < 256 → with_bits 8 k ≡ k * 256
lower k h = eqb-true _ _ (each (λ (k : ℕ). eqb (with_bits 8 k) (k * 256)) 256 k lowers h)

sixteen : (crc : ℕ) → with_bits 8 (with_bits 8 crc) ≡ with_bits 16 crc
unfolding with_bits
sixteen crc = refl

-- the byte comes in at the top
top : (c b : ℕ) → bit_xor c (b * 256) ≡ bit_xor (bit_xor (c / 256) b * 256) (c % 256)
top c b =
    ap₂ bit_xor (sym (div-add-mod' c 256)) (sym (add-zero (b * 256)))
    ∙ xor_block 8 (c / 256) b (c % 256) 0 (omega arith) (omega arith)
    ∙ ap (λ (x : ℕ). bit_xor (c / 256) b * 256 + x) (xor_zero_r (c % 256))
    ∙ sym (xor_shifted (bit_xor (c / 256) b) 8 (c % 256) (omega arith))

-- a table whose entries pass one computed test has the rule
unfoldable pub entry_of : List ℕ → ℕ → ℕ → Bool
entry_of table place k = eqb (get_or table (16 * place + k) 0) (with_bits 16 (k * 16 ^ place))

unfoldable pub entries_right : List ℕ → Bool
entries_right table = every 4 (λ (place : ℕ). every 16 (entry_of table place))

pub by_half_byte : (table : List ℕ) → entries_right table ≡ true → ByHalfByte table
unfolding entries_right entry_of
by_half_byte table e =
    record {
      entry = λ place k hp hk.
          eqb-true _ _ (each (entry_of table place) 16 k (each (λ (p : ℕ). every 16 (entry_of table p)) 4 place e hp) hk);
    }

-- sixteen bits of a sum are those of its two parts
parts : (a k b : ℕ) → b < 2 ^ k → a * 2 ^ k + b < 65536 → with_bits 16 (a * 2 ^ k + b) ≡ bit_xor (with_bits 16 (a * 2 ^ k)) (with_bits 16 b)
parts a k b hb h = ap (with_bits 16) (sym (xor_shifted a k b hb)) ∙ linears 16 (a * 2 ^ k) b (omega arith) (omega arith)

-- four half bytes at a time
module _ (crc : ℕ) (h : crc < 65536) where
  halves : crc ≡ crc / 256 * 256 + crc % 256
  halves = omega arith

  upper : crc / 256 * 256 ≡ crc / 4096 * 4096 + crc / 256 % 16 * 256
  upper = omega arith

  under : crc % 256 ≡ crc / 16 % 16 * 16 + crc % 16
  under = omega arith

  pub by_table : (table : List ℕ) → ByHalfByte table
      → bit_xor
      (bit_xor (get_or table (48 + crc / 4096) 0) (get_or table (32 + crc / 256 % 16) 0))
      (bit_xor (get_or table (16 + crc / 16 % 16) 0) (get_or table (crc % 16) 0))
      ≡ with_bits 16 crc
  by_table table rule =
      ap₂ bit_xor
      (ap₂ bit_xor (rule.entry 3 (crc / 4096) (omega arith) (omega arith)) (rule.entry 2 (crc / 256 % 16) (omega arith) (omega arith)))
      (ap₂ bit_xor (rule.entry 1 (crc / 16 % 16) (omega arith) (omega arith))
      (ap (λ (i : ℕ). get_or table i 0) (sym (zero-add (crc % 16))) ∙ rule.entry 0 (crc % 16) (omega arith) (omega arith) ∙ ap (with_bits 16) (mul-one (crc % 16))))
      ∙ sym
      (ap (with_bits 16) halves
      ∙ parts (crc / 256) 8 (crc % 256) (omega arith) (omega arith)
      ∙ ap₂ bit_xor
      (ap (with_bits 16) upper ∙ parts (crc / 4096) 12 (crc / 256 % 16 * 256) (omega arith) (omega arith))
      (ap (with_bits 16) under ∙ parts (crc / 16 % 16) 4 (crc % 16) (omega arith) (omega arith)))

-- one byte more
pub one : (crc byte : ℕ) → crc < 65536 → byte < 256 → bit_xor (with_bits 16 (bit_xor (crc / 256) byte)) (crc % 256 * 256) ≡ with_byte crc byte
unfolding with_byte
one crc byte hc hb =
    let k : ℕ = bit_xor (crc / 256) byte in
    let h : k < 256 = xor_lt 8 (crc / 256) byte (omega arith) hb in
    sym
    (ap (with_bits 8) (top crc byte)
    ∙ linears 8 (k * 256) (crc % 256) (omega arith) (omega arith)
    ∙ ap₂ bit_xor (ap (with_bits 8) (sym (lower k h)) ∙ sixteen k) (lower (crc % 256) (omega arith)))

-- two bytes more
pub pair : (crc first second : ℕ) → crc < 65536 → first < 256 → second < 256
    → with_bits 16 (bit_xor crc (first * 256 + second)) ≡ with_byte (with_byte crc first) second
unfolding with_byte
pair crc first second hc hf hs =
    let x : ℕ = bit_xor crc (first * 256) in
    let h : x < 65536 = xor_lt 16 crc (first * 256) hc (omega arith) in
    ap (with_bits 16) (ap (bit_xor crc) (sym (xor_shifted first 8 second hs)) ∙ sym (xor_assoc crc (first * 256) second))
    ∙ sym (sixteen (bit_xor x second))
    ∙ ap (with_bits 8) (linears 8 x second h (omega arith) ∙ ap (bit_xor (with_bits 8 x)) (lower second hs))

-- the loops over the bytes: one more, two more, no more
module _ (bytes : List ℕ) (i crc : ℕ) where
  pub one_more : i < length bytes → with_bytes crc (drop i bytes) ≡ with_bytes (with_byte crc (get_or bytes i 0)) (drop (i + 1) bytes)
  unfolding with_bytes
  one_more h = rw (drop-cons bytes i 0, add-one i)

  pub no_more : length bytes ≤ i → with_bytes crc (drop i bytes) ≡ crc
  unfolding with_bytes
  no_more h = rw (drop_of_length-le bytes h)

-- a byte of a pair, in the bytes
pub in_pair : (count i j : ℕ) (bytes : List ℕ) → i < count → j < 2 → get_or (get_or (first_chunks 2 count bytes) i []) j 0 ≡ get_or bytes (i * 2 + j) 0
in_pair zero i j bytes hi hj = absurd (omega arith)
in_pair (suc count) zero j bytes hi hj = rw zero-add (get_or-take 2 bytes j 0 hj)
in_pair (suc count) (suc i) j bytes hi hj =
    in_pair count i j (drop 2 bytes) (omega arith) hj
    ∙ get_or-drop 2 bytes (i * 2 + j) 0
    ∙ ap (λ (k : ℕ). get_or bytes k 0) (omega arith)

pub pair_more : (bytes : List ℕ) (i crc : ℕ) → i < length bytes / 2
    → with_bytes crc (drop (i * 2) bytes)
    ≡ with_bytes
    (with_byte
    (with_byte crc (get_or (get_or (first_chunks 2 (length bytes / 2) bytes) i []) 0 0))
    (get_or (get_or (first_chunks 2 (length bytes / 2) bytes) i []) 1 0))
    (drop ((i + 1) * 2) bytes)
pair_more bytes i crc h =
    rw (in_pair (length bytes / 2) i 0 bytes h (omega arith), in_pair (length bytes / 2) i 1 bytes h (omega arith), add-zero (i * 2))
    (one_more bytes (i * 2) crc (omega arith)
    ∙ one_more bytes (i * 2 + 1) (with_byte crc (get_or bytes (i * 2) 0)) (omega arith)
    ∙ ap (λ (k : ℕ). with_bytes (with_byte (with_byte crc (get_or bytes (i * 2) 0)) (get_or bytes (i * 2 + 1) 0)) (drop k bytes)) (omega arith))
