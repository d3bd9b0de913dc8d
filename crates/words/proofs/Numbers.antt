-- Laws of numbers: a word from a place on.
use mathlib.Core.Path.{◌≡◌, refl, ap, ◌∙◌}
use mathlib.Core.List.{List, [], ◌∷◌}
use Prim.Native.Nat.{ℕ, ◌+◌, ◌-◌, ◌≤◌, ◌<◌}
use native.Mathlib.Numerals.{add-one}
use native.Mathlib.Omega.{arith}
use lib.ListN.{length, take, drop, get_or, drop_of_length-le, length-drop}
use lib.Seq.{drop-cons, take_all}
use Rattle.words.specs.Numbers.{most, longer, value_from, value}

pub no_word : (word : List ℕ) → length word ≡ 0 → value word ≡ most + 1
unfolding value
no_word [] e = refl
no_word (c ∷ cs) e = absurd (omega arith)

pub some_word : (word : List ℕ) → (length word ≡ 0 → ⊥) → value word ≡ value_from 0 word
unfolding value
some_word [] e = absurd (e refl)
some_word (c ∷ cs) e = refl

module _ (word : List ℕ) (i v : ℕ) where
  -- a turn: u is the number with the character
  pub one_more : (u : ℕ) → i < length word → u ≡ longer v (get_or word i 0) → value_from v (drop i word) ≡ value_from u (drop (i + 1) word)
  unfolding value_from
  one_more u h e = rw (drop-cons word i 0 h, value_from, add-one i, e)

  pub value_ended : length word ≤ i → value_from v (drop i word) ≡ v
  unfolding value_from
  value_ended h = rw (drop_of_length-le word h)

-- what stands behind place k, as the code lends it
pub behind : (word : List ℕ) (k v : ℕ) → v ≡ value (take (length word - (k + 1)) (drop (k + 1) word)) → v ≡ value (drop (k + 1) word)
behind word k v e = e ∙ ap value (take_all (length word - (k + 1)) (drop (k + 1) word) (omega (arith, length-drop (k + 1) word)))
