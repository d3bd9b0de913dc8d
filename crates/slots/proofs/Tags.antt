-- The hashed part by what its two searches find.
use Rattle.std.proofs.Common.{◌≡◌, ℕ, ◌+◌, ◌-◌, ◌<◌, List, Option, None, Some, length, take, drop, sym, arith}
use Rattle.std.proofs.lemmas.List.{take_rest}
use borrow.Author.Tests.{ne_eqb}
use Rattle.tables.specs.Lists.{first_byte}
use Rattle.tables.proofs.Walks.{first_within}
use Rattle.slots.specs.Key.{opening, closing, up_to_closing, after_opening, hashed_part}

-- a place that a search found
pub found_within : (byte : ℕ) (s : List ℕ) (n : ℕ) → Some n ≡ first_byte byte s → n < length s
found_within byte s n e = omega (arith, first_within _ s 0 n (sym e))

pub no_opening : (key : List ℕ) → None ≡ first_byte opening key → key ≡ hashed_part key
unfolding hashed_part after_opening
no_opening key e = rw (← e)

-- the search for the `}` goes over the rest of the key, as the code lends it
module _ (key : List ℕ) (o : ℕ) (opened : Some o ≡ first_byte opening key) where
  by_closing : (f : Option ℕ) → f ≡ first_byte closing (take (length key - (o + 1)) (drop (o + 1) key))
      → hashed_part key ≡ up_to_closing key (drop (o + 1) key) f
  unfolding hashed_part after_opening
  by_closing f e = rw (← opened, e, take_rest key (o + 1))

  pub no_closing : None ≡ first_byte closing (take (length key - (o + 1)) (drop (o + 1) key)) → key ≡ hashed_part key
  unfolding up_to_closing
  no_closing e = rw (by_closing None e)

  module _ (n : ℕ) (closed : Some n ≡ first_byte closing (take (length key - (o + 1)) (drop (o + 1) key))) where
    pub nothing_between : n ≡ 0 → key ≡ hashed_part key
    unfolding up_to_closing
    nothing_between z = rw (by_closing (Some n) closed, z)

    pub tagged : ¬ (n ≡ 0) → take n (take (length key - (o + 1)) (drop (o + 1) key)) ≡ hashed_part key
    unfolding up_to_closing
    tagged z = rw (by_closing (Some n) closed, take_rest key (o + 1), ne_eqb _ _ z)
