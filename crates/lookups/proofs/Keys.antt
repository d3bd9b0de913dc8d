-- A text's front copied into a key.
use Rattle.std.proofs.Common.{◌≡◌, ◌∙◌, ℕ, ◌<◌, ◌≤◌, Bool, true, false, List, [], ◌++◌, length, take, drop, refl, nat_lt, arith}
use Rattle.std.proofs.lemmas.List.{length-take, length-take-le, length-append, append-nil}
use lib.ListN.{drop_of_length-le}
use lib.Seq.{take_all, take-append_seam}
use native.Mathlib.Nat.{min-le_left}
use borrow.Author.Tests.{ltb-true, ltb-false}
use Rattle.lookups.specs.Keys.{key_room, front_of}

-- a front fits
pub front_fits : (text front : List ℕ) → front ≡ front_of key_room text → length front ≤ key_room
front_fits text front e = rw (e, length-take key_room text) (min-le_left key_room (length text))

-- the key's bytes are the front again: where the text is longer, nothing stands behind it
pub carried : (text zeroes : List ℕ) → length zeroes ≡ key_room
    → take (length text) (front_of key_room text ++ drop (length (front_of key_room text)) zeroes) ≡ front_of key_room text
carried text zeroes wide = by (nat_lt key_room (length text)) refl
  where
    by : (t : Bool) → nat_lt key_room (length text) ≡ t
        → take (length text) (front_of key_room text ++ drop (length (front_of key_room text)) zeroes) ≡ front_of key_room text
    by true e =
        let longer : key_room < length text = ltb-true key_room (length text) e in
        let full : length (front_of key_room text) ≡ key_room = length-take-le key_room text (omega arith) in
        let none : drop (length (front_of key_room text)) zeroes ≡ [] = rw full (drop_of_length-le zeroes {i = key_room} (omega arith)) in
        rw none (take_all (length text) (front_of key_room text ++ []) (rw length-append (omega arith)) ∙ append-nil (front_of key_room text))
    by false e =
        let whole : front_of key_room text ≡ text = take_all key_room text (ltb-false key_room (length text) e) in
        rw whole (take-append_seam text (drop (length text) zeroes))
