-- What a call came to, as far as votes and elections go, and the words of demand 3 over what one node did.
use Rattle.std.specs.Prelude.{◌≡◌, ◌⊎◌, Bool, true, false, cond, List, [], ◌∷◌, ◌++◌, ℕ, max, eqb}
use Rattle.tables.specs.Checks.{all_of}
use Rattle.state.specs.Node.{owns}

pub data Deed : Type 0 where
  -- a vote request answered 10
  granted : (epoch candidate : ℕ) → Deed
  -- an ack answered 0
  counted : (voter epoch : ℕ) → Deed
  -- an ack answered 30
  won : (voter epoch : ℕ) → Deed
  -- an opening answered 0, and the slot table lent to it
  opened : (slots : List ℕ) → Deed
  -- a heartbeat answered 0, which says whether its sender is a master
  announced : (sender : ℕ) (master : Bool) → Deed
  other : Deed

-- A history is what one node did, the latest first.

abbrev pub Did : Deed → List Deed → Type 0
Did d [] = ⊥
Did d (x ∷ h) = (x ≡ d) ⊎ Did d h

-- ---- granted

-- the epochs that were granted, one for each grant
abbrev pub grant_of : Deed → List ℕ
grant_of (granted e c) = e ∷ []
grant_of (counted v e) = []
grant_of (won v e) = []
grant_of (opened slots) = []
grant_of (announced s m) = []
grant_of other = []

abbrev pub grants : List Deed → List ℕ
grants [] = []
grants (d ∷ h) = grant_of d ++ grants h

abbrev pub Has : ℕ → List ℕ → Type 0
Has e [] = ⊥
Has e (x ∷ xs) = (x ≡ e) ⊎ Has e xs

abbrev pub NoneTwice : List ℕ → Type 0
NoneTwice [] = Unit {0}
NoneTwice (x ∷ xs) = (Has x xs → ⊥) × NoneTwice xs

-- the greatest, or 0 if there is none
abbrev pub greatest : List ℕ → ℕ
greatest [] = 0
greatest (x ∷ xs) = max x (greatest xs)

-- ---- counted and won

-- the ack of that voter for that epoch was answered 0 or 30
abbrev pub Counted : ℕ → ℕ → List Deed → Type 0
Counted v e h = Did (counted v e) h ⊎ Did (won v e) h

-- the epoch was won, and `before` is what the node had done before that win
abbrev pub Won : ℕ → List Deed → List Deed → Type 0
Won e [] before = ⊥
Won e (x ∷ h) before = ((voter : ℕ) × (x ≡ won voter e) × (before ≡ h)) ⊎ Won e h before

-- ---- the set of voting masters: document 01, "The lists of demand 3", and document 02, [3]

abbrev pub is_opening : Deed → Bool
is_opening (granted e c) = false
is_opening (counted v e) = false
is_opening (won v e) = false
is_opening (opened slots) = true
is_opening (announced s m) = false
is_opening other = false

-- what was done before the last opening
abbrev pub before_opening : List Deed → List Deed
before_opening [] = []
before_opening (d ∷ h) = cond (is_opening d) h (before_opening h)

-- the slot table lent to the last opening, or an empty one with no opening
abbrev pub lent_after : Deed → List ℕ → List ℕ
lent_after (granted e c) was = was
lent_after (counted v e) was = was
lent_after (won v e) was = was
lent_after (opened slots) was = slots
lent_after (announced s m) was = was
lent_after other was = was

abbrev pub table_at_opening : List Deed → List ℕ
table_at_opening [] = []
table_at_opening (d ∷ h) = lent_after d (table_at_opening h)

-- is k listed as a master: by the last heartbeat that names it as sender or, with no such heartbeat, by the roster
abbrev pub listed_after : Deed → ℕ → Bool → Bool
listed_after (granted e c) k was = was
listed_after (counted v e) k was = was
listed_after (won v e) k was = was
listed_after (opened slots) k was = was
listed_after (announced s m) k was = cond (eqb s k) m was
listed_after other k was = was

abbrev pub listed_master : (ℕ → Bool) → List Deed → ℕ → Bool
listed_master roster [] k = roster k
listed_master roster (d ∷ h) k = listed_after d k (listed_master roster h k)

-- the set of the election that node a has open after that history: the others that were listed as masters at its opening and
-- own some slot of the table lent to it
abbrev pub voting_set : (ℕ → Bool) → ℕ → List Deed → ℕ → Bool
voting_set roster a h k = cond (eqb k a) false (all_of (listed_master roster (before_opening h) k ∷ owns (table_at_opening h) k ∷ []))
