-- Laws of what a line hands on: entries given from the front, digits, bytes and characters written one after the other.
use mathlib.Core.Path.{◌≡◌, sym, ◌∙◌}
use mathlib.Core.List.{List, [], ◌∷◌, ◌++◌, map}
use Prim.Native.Nat.{ℕ, ◌+◌, ◌≤◌, ◌<◌}
use native.Mathlib.Numerals.{add-one}
use native.Mathlib.Omega.{arith}
use lib.ListN.{length, drop, get_or, set, length-set, drop_of_length-le}
use lib.Seq.{drop-cons}
use Rattle.tables.proofs.Walks.{Rewritten, stored, map_turn}
use Rattle.hexdigits.specs.Hex.{byte_at, bytes_at}
use Rattle.hexdigits.proofs.Bytes.{bytes_snoc}
use Rattle.arguments.specs.Bytes.{chosen, digit_of, digits_below, handed}

-- an entry gets its value
pub one_given : (first last x : ℕ) {a l : List ℕ} {s v : ℕ} → Rewritten (chosen first last x) a l s → s < length l → v ≡ chosen first last x s (get_or l s 0)
    → Rewritten (chosen first last x) a (set l s v) (s + 1)
one_given first last x {a} {l} {s} {v} r h e = record {
  within = omega (arith, r.long);
  long = length-set l s v ∙ r.long;
  rest = r.rest ∙ map_turn 0 h (stored _ _ h v) _ (sym e);
}

-- one more digit of a bitmap, and one more byte of a key
pub one_digit : (table : List ℕ) (j : ℕ) → digits_below table (j + 1) ≡ digits_below table j ++ (digit_of table j ∷ [])
unfolding digits_below
one_digit table j = rw add-one

pub one_byte : (l : List ℕ) (i : ℕ) → bytes_at l 0 (i + 1) ≡ bytes_at l 0 i ++ (byte_at l i ∷ [])
one_byte l i = let z : 0 + i ≡ i = omega arith in rw (add-one i) (bytes_snoc l 0 i ∙ rw z)

-- the characters of a piece from place i on
module _ (word : List ℕ) (i : ℕ) where
  pub one_handed : i < length word → map handed (drop i word) ≡ handed (get_or word i 0) ∷ [] ++ map handed (drop (i + 1) word)
  one_handed h = rw (add-one i, drop-cons word i 0 h)

  pub all_handed : length word ≤ i → map handed (drop i word) ≡ []
  all_handed h = rw (drop_of_length-le word h)
