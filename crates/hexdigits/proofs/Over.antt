-- A text written over a buffer: piece by piece, and what stays.
use mathlib.Core.Path.{◌≡◌, refl, sym, ap}
use mathlib.Core.List.{List, [], ◌∷◌, ◌++◌}
use Prim.Native.Nat.{ℕ, zero, suc, ◌+◌, ◌*◌, ◌/◌, ◌%◌, ◌≤◌}
use native.Mathlib.Nat.{zero-add, suc-add}
use native.Mathlib.Omega.{arith}
use lib.ListN.{length, set}
use Rattle.hexdigits.specs.Hex.{hex, bytes_of, over, OverFits}
use Rattle.hexdigits.proofs.Writing.{length_hex, length_bytes_of}

pub over_nothing : (out : List ℕ) (i : ℕ) → over out i [] ≡ out
unfolding over
over_nothing [] i = refl
over_nothing (b ∷ bs) zero = refl
over_nothing (b ∷ bs) (suc i) = ap (λ (t : List ℕ). b ∷ t) (over_nothing bs i)

-- one character is a store, and a place past the end changes nothing
pub over_one : (out : List ℕ) (i c : ℕ) → set out i c ≡ over out i (c ∷ [])
unfolding over
over_one [] i c = refl
over_one (b ∷ bs) zero c = ap (λ (t : List ℕ). c ∷ t) (sym (over_nothing bs zero))
over_one (b ∷ bs) (suc i) c = ap (λ (t : List ℕ). b ∷ t) (over_one bs i c)

pub over_past : (out : List ℕ) (i : ℕ) (text : List ℕ) → length out ≤ i → out ≡ over out i text
unfolding over
over_past [] i text h = refl
over_past (b ∷ bs) zero text h = absurd (omega arith)
over_past (b ∷ bs) (suc i) text h = ap (λ (t : List ℕ). b ∷ t) (over_past bs i text (omega arith))

-- a text in front of one that is written already
pub over_before : (out : List ℕ) (i : ℕ) (a b : List ℕ) → over (over out (i + length a) b) i a ≡ over out i (a ++ b)
unfolding over
over_before [] i a b = refl
over_before (o ∷ os) zero [] b = over_nothing (over (o ∷ os) zero b) zero
over_before (o ∷ os) zero (c ∷ cs) b = rw zero-add (ap (λ (t : List ℕ). c ∷ t) (rw (zero-add (length cs)) at (over_before os zero cs b)))
over_before (o ∷ os) (suc i) a b = rw (suc-add i (length a)) (ap (λ (t : List ℕ). o ∷ t) (over_before os i a b))

pub length_over : (out : List ℕ) (i : ℕ) (text : List ℕ) → length (over out i text) ≡ length out
unfolding over
length_over [] i text = refl
length_over (b ∷ bs) zero [] = refl
length_over (b ∷ bs) zero (c ∷ cs) = ap suc (length_over bs zero cs)
length_over (b ∷ bs) (suc i) text = ap suc (length_over bs i text)

pub over_fits : (out : List ℕ) (i : ℕ) (text : List ℕ) → OverFits out i text
unfolding over
over_fits [] zero [] h = refl
over_fits [] zero (c ∷ cs) h = absurd (omega arith)
over_fits [] (suc i) text h = absurd (omega arith)
over_fits (b ∷ bs) zero [] h = refl
over_fits (b ∷ bs) zero (c ∷ cs) h = rw (zero-add (suc (length cs)), ← zero-add (length cs)) (ap (λ (t : List ℕ). c ∷ t) (over_fits bs zero cs (omega arith)))
over_fits (b ∷ bs) (suc i) text h = rw (suc-add i (length text)) (ap (λ (t : List ℕ). b ∷ t) (over_fits bs i text (omega arith)))

-- ---- digits of bytes

hex_append : (a b : List ℕ) → hex (a ++ b) ≡ hex a ++ hex b
unfolding hex
hex_append [] b = refl
hex_append (x ∷ a) b = rw (hex_append a b)

-- a byte: its second digit, then its first
pub two_written : (out : List ℕ) (i k b h l : ℕ) → h ∷ l ∷ [] ≡ hex (b ∷ []) → over (over out (i + (k + 1)) (l ∷ [])) (i + k) (h ∷ []) ≡ over out (i + k) (hex (b ∷ []))
two_written out i k b h l e =
    let s : i + (k + 1) ≡ i + k + length (h ∷ []) = omega arith in
    rw (← e, s) (over_before out (i + k) (h ∷ []) (l ∷ []))

-- a number: its last byte, then the bytes in front
pub last_written : (out : List ℕ) (i k x : ℕ) → over (over out (i + 2 * k) (hex (x % 256 ∷ []))) i (hex (bytes_of k (x / 256))) ≡ over out i (hex (bytes_of (suc k) x))
unfolding bytes_of
last_written out i k x =
    let n : 2 * k ≡ length (hex (bytes_of k (x / 256))) = omega (arith, length_hex (bytes_of k (x / 256)), length_bytes_of k (x / 256)) in
    rw (n, hex_append (bytes_of k (x / 256)) (x % 256 ∷ [])) (over_before out i (hex (bytes_of k (x / 256))) (hex (x % 256 ∷ [])))
