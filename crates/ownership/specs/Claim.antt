-- What a master's bitmap makes of the slot table: document 01, "Heartbeat", the claims.
use Rattle.std.specs.Prelude.{ℕ, Bool, true, false, cond, List, eqb, ltb, get_or, None, Option, Some}
use Rattle.tables.specs.Lists.{map_at, count_at, first_at}
use Rattle.tables.specs.Sets.{claimed}
use Rattle.answers.specs.declared.Tally.{Tally}
use Rattle.ownership.specs.declared.Fate.{Fate}
use Rattle.ownership.specs.declared.Fate.TheVariants.{Bound, Rebound, Stale, Stays}

-- who claims, with which configEpoch (the frame's own), and what is known of the owners: how many nodes are listed, and
-- their configEpochs by their numbers
pub record Claimant : Type 0 where
  pub sender : ℕ
  pub config : ℕ
  pub size : ℕ
  pub configs : List ℕ

abbrev pub claimant : List ℕ → ℕ → ℕ → ℕ → Claimant
claimant configs size sender config = record { sender = sender; config = config; size = size; configs = configs }

-- the known configEpoch of an owner
abbrev pub known : Claimant → ℕ → ℕ
known c o = get_or c.configs o 0

-- a claimed slot by its entry o. Unowned: bound. Its own: stays. Another's, of a lesser configEpoch: rebound; of a greater
-- one: stays, and the sender is stale; of the same one: stays
unfoldable pub fate : Claimant → ℕ → Fate
fate c o =
    cond (ltb o c.size)
    (cond (eqb o c.sender) Stays
    (cond (ltb (known c o) c.config) Rebound
    (cond (ltb c.config (known c o)) Stale Stays)))
    Bound

-- slot s with the entry o: one that is not claimed stays
abbrev pub fate_at : Claimant → List ℕ → ℕ → ℕ → Fate
fate_at c bitmap s o = cond (claimed bitmap s) (fate c o) Stays

-- the entry after it: the sender, or what it was
abbrev pub entry_after : Claimant → Fate → ℕ → ℕ
entry_after c Bound o = c.sender
entry_after c Rebound o = c.sender
entry_after c Stale o = o
entry_after c Stays o = o

abbrev pub is_bound : Fate → Bool
is_bound Bound = true
is_bound Rebound = false
is_bound Stale = false
is_bound Stays = false

abbrev pub is_rebound : Fate → Bool
is_rebound Bound = false
is_rebound Rebound = true
is_rebound Stale = false
is_rebound Stays = false

abbrev pub is_stale : Fate → Bool
is_stale Bound = false
is_stale Rebound = false
is_stale Stale = true
is_stale Stays = false

-- of two finds the first, if it found something
abbrev pub or_else : Option ℕ → Option ℕ → Option ℕ
or_else None b = b
or_else (Some i) b = Some i

-- what a claim leaves: the counts with the lowest stale slot, and the table
pub record Claimed : Type 0 where
  pub tally : Tally
  pub slots : List ℕ

-- the whole table: every slot has its fate, slots bound and slots rebound are counted, the lowest stale slot is named
unfoldable pub claim : Claimant → List ℕ → List ℕ → Claimed
claim c bitmap slots = record {
  tally = record {
    bound = count_at (λ s o. is_bound (fate_at c bitmap s o)) slots;
    rebound = count_at (λ s o. is_rebound (fate_at c bitmap s o)) slots;
    stale = first_at (λ s o. is_stale (fate_at c bitmap s o)) slots;
  };
  slots = map_at (λ s o. entry_after c (fate_at c bitmap s o) o) slots;
}
