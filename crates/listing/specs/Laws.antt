-- What holds of the ranges of a slot table, and of the list that they are written to.
use Rattle.std.specs.Prelude.{◌≡◌, List, ℕ, suc, ◌+◌, ◌*◌, ◌≤◌, ◌<◌, length, get_or}
use Rattle.tables.specs.Sizes.{slot_count}
use Rattle.answers.specs.Answers.{number}
use Rattle.answers.specs.declared.Answer.TheVariants.{Listed}
use Rattle.listing.specs.Listing.{Range, range, listing, lists}

-- ---- the words of document 02, said of any list of ranges

module _ (size : ℕ) (slots : List ℕ) (rs : List Range) where
  -- the range at a place
  abbrev pub at : ℕ → Range
  at i = get_or rs i (range 0 0 0)

  abbrev entry : ℕ → ℕ
  entry s = get_or slots s 0

  -- slot s stands in the range at place i
  abbrev pub StandsIn : ℕ → ℕ → Type 0
  StandsIn s i = (i < length rs) × ((at i).first ≤ s) × (s ≤ (at i).last)

  -- in exactly one range, and with its owner
  pub record StandsInOne (s : ℕ) : Type 0 where
    pub place : ℕ
    pub stands : StandsIn s place
    pub owner's : (at place).owner ≡ entry s
    pub alone : (i : ℕ) → StandsIn s i → i ≡ place

  pub record ListsRanges : Type 0 where
    -- every owned slot stands in exactly one range, with its owner
    pub owned : (s : ℕ) → s < length slots → entry s < size → StandsInOne s
    -- an unowned one in none
    pub unowned : (s : ℕ) → s < length slots → size ≤ entry s → (i : ℕ) → StandsIn s i → ⊥
    -- neighbours with one owner are never in two ranges
    pub neighbours : (s : ℕ) → suc s < length slots → entry s ≡ entry (suc s) → (i j : ℕ) → StandsIn s i → StandsIn (suc s) j → i ≡ j
    -- in ascending order: a range ends before the next one begins
    pub ascending : (i j : ℕ) → i < j → j < length rs → (at i).last < (at j).first
    -- no range is empty
    pub not_empty : (i : ℕ) → i < length rs → (at i).first ≤ (at i).last
    -- none goes past the table
    pub inside : (i : ℕ) → i < length rs → (at i).last < length slots

module _ (size : ℕ) (slots : List ℕ) where
  abbrev ranges : ℕ
  ranges = length (listing size slots)

  pub record ListingLaws : Type 0 where
    -- they hold of the listing,
    pub listing's : ListsRanges size slots (listing size slots)
    -- and of no other list of ranges
    pub only : (rs : List Range) → ListsRanges size slots rs → rs ≡ listing size slots
    -- there are at most as many ranges as slots
    pub few : ranges ≤ length slots

  -- ---- the list

  module _ (list : List ℕ) where
    abbrev after : ℕ → ℕ
    after k = get_or (lists size slots list).list k 0

    -- the list after an answer 0
    pub record ListLaws : Type 0 where
      -- three numbers a range
      pub first : (i : ℕ) → i < ranges → after (3 * i) ≡ (at size slots (listing size slots) i).first
      pub last : (i : ℕ) → i < ranges → after (3 * i + 1) ≡ (at size slots (listing size slots) i).last
      pub owner : (i : ℕ) → i < ranges → after (3 * i + 2) ≡ (at size slots (listing size slots) i).owner
      -- numbers past the last range stay
      pub past : (k : ℕ) → 3 * ranges ≤ k → after k ≡ get_or list k 0
      pub long : length (lists size slots list).list ≡ length list

    pub record AnswerLaws : Type 0 where
      -- an answer 0 tells how many ranges there are, and writes them
      pub done : number (lists size slots list).answer ≡ 0 → ((lists size slots list).answer ≡ Listed ranges) × ListLaws
      -- any other writes nothing
      pub refused : (number (lists size slots list).answer ≡ 0 → ⊥) → (lists size slots list).list ≡ list
      -- a list of 49,152 numbers is always enough
      pub enough : length slots ≡ slot_count → 3 * slot_count ≤ length list → (lists size slots list).answer ≡ Listed ranges
