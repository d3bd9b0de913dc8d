-- What a claim makes of the slot table, slot by slot and in numbers.
use Rattle.std.specs.Prelude.{◌≡◌, Bool, true, false, not, List, ℕ, ◌≤◌, ◌<◌, ltb, length, get_or}
use Rattle.tables.specs.Lists.{changed_from}
use Rattle.tables.specs.Sets.{claimed}
use Rattle.ownership.specs.Claim.{Claimant, known, claim}

-- an entry that becomes the sender's if, and only if, something holds, and stays its owner's otherwise
pub record ExactlyWhen (it : Type 0) (after sender owner : ℕ) : Type 0 where
  pub if : it → after ≡ sender
  pub only_if : after ≡ sender → it
  pub otherwise : (it → ⊥) → after ≡ owner

-- an owner is a number of the roster; any other entry means unowned
abbrev pub is_owner : Claimant → ℕ → Bool
is_owner c o = ltb o c.size

abbrev pub is_unowned : Claimant → ℕ → Bool
is_unowned c o = not (is_owner c o)

module _ (c : Claimant) (bitmap slots : List ℕ) where
  abbrev owner : ℕ → ℕ
  owner s = get_or slots s 0

  abbrev after : ℕ → ℕ
  after s = get_or (claim c bitmap slots).slots s 0

  pub record ClaimLaws : Type 0 where
    -- the table keeps its length
    pub long : length (claim c bitmap slots).slots ≡ length slots
    -- a slot that is not claimed stays
    pub unclaimed : (s : ℕ) → s < length slots → claimed bitmap s ≡ false → after s ≡ owner s
    -- a claimed one goes to the sender if it is unowned
    pub unowned : (s : ℕ) → s < length slots → c.size ≤ owner s → claimed bitmap s ≡ true → after s ≡ c.sender
    -- the sender's own stays
    pub own : (s : ℕ) → s < length slots → owner s ≡ c.sender → after s ≡ c.sender
    -- one owned by another goes to the sender exactly when it is claimed and the known configEpoch of its owner is less
    -- than the frame's
    pub another : (s : ℕ) → s < length slots → owner s < c.size → (owner s ≡ c.sender → ⊥)
        → ExactlyWhen ((claimed bitmap s ≡ true) × (known c (owner s) < c.config)) (after s) c.sender (owner s)
    -- slots newly bound are the entries that changed from unowned; the sender is in the roster, which check 3 has shown
    pub bound : c.sender < c.size → (claim c bitmap slots).tally.bound ≡ changed_from (is_unowned c) slots (claim c bitmap slots).slots
    -- slots rebound are the entries that changed from another owner
    pub rebound : (claim c bitmap slots).tally.rebound ≡ changed_from (is_owner c) slots (claim c bitmap slots).slots
