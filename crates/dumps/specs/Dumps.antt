-- A slot table as it is written out, read back: as it lies in memory, or as text.
use Rattle.std.specs.Prelude.{◌≡◌, ℕ, ◌+◌, ◌*◌, ◌≤◌, ◌<◌, Bool, not, cond, List, [], ◌∷◌, eqb, leb, length, get_or, None, Option, Some, Result, Ok, Err, ⊤}
use Rattle.tables.specs.Sizes.{slot_count, node_room, unowned}
use Rattle.tables.specs.Checks.{all_of, any_of}
use Rattle.tables.specs.Lists.{first_at}
use Rattle.hexdigits.specs.Hex.{is_digit, digit}
use Rattle.dumps.specs.declared.Fault.{Fault}
use Rattle.dumps.specs.declared.Fault.TheVariants.{Odd, Digits}

-- ---- in memory

-- two bytes an entry, the low one first
unfoldable pub pairs : List ℕ → List ℕ
pairs [] = []
pairs (low ∷ []) = []
pairs (low ∷ high ∷ rest) = (low + high * 256) ∷ pairs rest

-- ---- as text

-- a space: a blank, or a tab, a line end or another of the bytes 9 to 13
unfoldable pub is_space : ℕ → Bool
is_space c = any_of (eqb c 0x20 ∷ all_of (leb 0x09 c ∷ leb c 0x0d ∷ []) ∷ [])

-- a letter from A to F as the small one; any other character as it is
unfoldable pub small : ℕ → ℕ
small c = cond (all_of (leb 0x41 c ∷ leb c 0x46 ∷ [])) (c + 0x20) c

-- a character that a text may have: a space, or a digit in either case
abbrev pub is_text : ℕ → Bool
is_text c = any_of (is_space c ∷ is_digit (small c) ∷ [])

-- the values of the characters that are no spaces
unfoldable pub digits : List ℕ → List ℕ
digits [] = []
digits (c ∷ cs) = cond (is_space c) (digits cs) (digit (small c) ∷ digits cs)

-- four digits an entry, the highest first
unfoldable pub fours : List ℕ → List ℕ
fours [] = []
fours (a ∷ []) = []
fours (a ∷ b ∷ []) = []
fours (a ∷ b ∷ c ∷ []) = []
fours (a ∷ b ∷ c ∷ d ∷ rest) = (((a * 16 + b) * 16 + c) * 16 + d) ∷ fours rest

-- ---- which of the two it is

-- the first byte that no text has
abbrev pub first_odd : List ℕ → Option ℕ
first_odd input = first_at (λ place c. not (is_text c)) input

-- what is told, and the table then
pub record Outcome : Type 0 where
  pub reading : Result ⊤ Fault
  pub slots : List ℕ

-- an input with such a byte is a table in memory, if it has the length of one
abbrev pub from_memory : ℕ → List ℕ → List ℕ → Outcome
from_memory odd input slots =
    cond (eqb (length input) (2 * slot_count)) (record { reading = Ok tt; slots = pairs input }) (record { reading = Err (Odd odd); slots = slots })

-- any other is text, and a table if it has the digits of one
abbrev pub from_text : List ℕ → List ℕ → Outcome
from_text ds slots =
    cond (eqb (length ds) (4 * slot_count)) (record { reading = Ok tt; slots = fours ds }) (record { reading = Err (Digits (length ds)); slots = slots })

abbrev pub by_form : Option ℕ → List ℕ → List ℕ → Outcome
by_form None input slots = from_text (digits input) slots
by_form (Some odd) input slots = from_memory odd input slots

-- what an input is read as, and the table that it leaves: a fault leaves the table as it was
unfoldable pub read_into : List ℕ → List ℕ → Outcome
read_into input slots = by_form (first_odd input) input slots

-- ---- what that comes to

-- nothing is lost by taking a text for one: in memory its entries would be no node's numbers, so that no slot would be owned
abbrev pub NothingLost : List ℕ → Type 0
NothingLost input = first_odd input ≡ None → (s : ℕ) → s < length (pairs input) → node_room ≤ get_or (pairs input) s 0

-- node 12 and an unowned entry, in memory, and as the text "000C", a line end and "ff Ff"
abbrev pub Examples : Type 0
Examples =
    (pairs (0x0c ∷ 0x00 ∷ 0xff ∷ 0xff ∷ []) ≡ 12 ∷ unowned ∷ [])
    × (fours (digits (0x30 ∷ 0x30 ∷ 0x30 ∷ 0x43 ∷ 0x0a ∷ 0x66 ∷ 0x66 ∷ 0x20 ∷ 0x46 ∷ 0x66 ∷ [])) ≡ 12 ∷ unowned ∷ [])
