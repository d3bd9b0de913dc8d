-- A text with numbers in it, one byte after the other.
use mathlib.Core.Path.{◌≡◌, refl}
use mathlib.Core.List.{List, [], ◌∷◌, ◌++◌}
use Prim.Native.Nat.{ℕ, ◌+◌, ◌≤◌, ◌<◌}
use native.Mathlib.Numerals.{add-one}
use Rattle.std.specs.Prelude.{None, Option, Some}
use Rattle.std.specs.Option.{MatchOption, option_copied, unwrap_or}
use Rattle.std.proofs.Common.{Iter, Bor}
use Rattle.std.proofs.lemmas.List.{nil_from_length}
use lib.ListN.{length, drop, get_or, drop_of_length-le}
use lib.Seq.{drop-cons}
use borrow.Author.Tests.{eq-eqb, ne_eqb}
use Rattle.phrases.specs.Phrases.{grouped, percent, filled}

-- the text from place i on, with the numbers that are left
module _ (text numbers : List ℕ) (i : ℕ) where
  pub next_number : i < length text → get_or text i 0 ≡ percent → filled (drop i text) numbers ≡ grouped (get_or numbers 0 0) ++ filled (drop (i + 1) text) (drop 1 numbers)
  unfolding filled
  next_number h p = rw (drop-cons text i 0 h, filled, eq-eqb _ _ p, add-one i)

  pub next_byte : i < length text → (get_or text i 0 ≡ percent → ⊥) → filled (drop i text) numbers ≡ get_or text i 0 ∷ [] ++ filled (drop (i + 1) text) numbers
  unfolding filled
  next_byte h p = rw (drop-cons text i 0 h, filled, ne_eqb _ _ p, add-one i)

  pub no_byte : length text ≤ i → filled (drop i text) numbers ≡ []
  unfolding filled
  no_byte h = rw (drop_of_length-le text h)

-- the next number, 0 where none is left, and those that are left then
pub taken : (o : Option (Bor ℕ)) (it it' : Iter ℕ) → MatchOption o (length it.rest.now ≡ 0 × it' ≡ it) (λ x. it.rest.now ≡ x.now ∷ it'.rest.now)
    → (unwrap_or (option_copied o) 0 ≡ get_or it.rest.now 0 0) × (it'.rest.now ≡ drop 1 it.rest.now)
taken None it it' h = rw (h.1, nil_from_length it.rest.now h.0) (refl, refl)
taken (Some x) it it' h = rw h (refl, refl)
