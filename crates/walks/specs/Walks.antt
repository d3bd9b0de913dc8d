-- A lookup's way over the nodes of a run (docs/REPLAY.md): each question goes to the node that the lookup asks, with that node's own
-- slot table, and the node has the key exactly if it is named behind `held`.
use Rattle.std.specs.Prelude.{ℕ, zero, suc, ◌+◌, ◌*◌, ◌%◌, ◌-◌, ◌≡◌, Bool, true, false, cond, List, [], ◌∷◌, get_or, take, drop, eqb, None}
use Rattle.tables.specs.Sizes.{slot_count}
use Rattle.state.specs.declared.Node.{Node}
use Rattle.calls.specs.declared.Call.{Call}
use Rattle.seats.specs.declared.Seat.{Seat}
use Rattle.lookups.specs.Lookups.{most_hops}
use Rattle.lookups.specs.declared.Key.{Key}
use Rattle.lookups.specs.declared.Stage.{Stage}
use Rattle.lookups.specs.declared.Stage.TheVariants.{Asking, Ended}
use Rattle.lookups.specs.declared.Lookup.{Lookup}
use Rattle.cache.specs.Cache.{Map}
use Rattle.gateway.specs.Gateway.{Taken, started, asked}

-- the most nodes of a run
abbrev pub run_room : ℕ
run_room = 16

-- what reading past the end of the nodes gives; no question goes there
abbrev pub no_seat : Seat
no_seat = record {
  node = record { ids = []; records = []; marks = []; size = 0; me = 0; marked = 0; current = 0; voted = 0; clock = 0; timeout = 0; election = None };
  kept = record { bytes = []; length = 0 };
}

-- a node of the run, and its slot table in the list of all
abbrev pub node_of : List Seat → ℕ → Node
node_of seats k = (get_or seats (k % run_room) no_seat).node

abbrev pub table_of : List ℕ → ℕ → List ℕ
table_of slots k = take slot_count (drop (k % run_room * slot_count) slots)

-- one of the words says that number
unfoldable pub among : ℕ → List ℕ → Bool
among k [] = false
among k (n ∷ ns) = cond (eqb n k) true (among k ns)

-- the words of a line from a place on, of so many
abbrev pub words_from : ℕ → ℕ → List ℕ → List ℕ
words_from place words numbers = take (words - place) (drop place numbers)

-- a node has the key: it is named behind `held`, from place 4 on
abbrev pub holds : Call → ℕ → Bool
holds call k = among k (words_from 4 call.words call.numbers)

module _ (seats : List Seat) (slots : List ℕ) (call : Call) (size : ℕ) where
  -- one question; a lookup that has ended asks none
  abbrev pub questioned : Stage → Lookup → Map → Taken
  questioned (Asking q) l map = asked l map size (node_of seats q.node) (table_of slots q.node) (holds call q.node)
  questioned (Ended end) l map = record { lookup = l; map = map }

  -- so many questions, one after the other
  unfoldable pub walked : ℕ → Lookup → Map → Taken
  walked zero l map = record { lookup = l; map = map }
  walked (suc n) l map = walked n (questioned l.stage l map).lookup (questioned l.stage l map).map

-- one question more than the redirections that are followed
abbrev pub most_questions : ℕ
most_questions = most_hops + 1

-- what a line leaves of the map: what the questions of one lookup make of it, of the household that the line names at place 1
pub record LookedUp (seats : List Seat) (slots : List ℕ) (call : Call) (size : ℕ) (before after : Map) : Type 0 where
  pub key : Key
  pub map : after ≡ (walked seats slots call size most_questions (started before size (get_or call.numbers 1 0) key) before).map

-- ---- they are enough

abbrev pub has_ended : Stage → Bool
has_ended (Asking q) = false
has_ended (Ended end) = true

-- a lookup that has started has ended then, whatever the nodes are and reply
abbrev pub WalkEnds : Type 0
WalkEnds = (seats : List Seat) (slots : List ℕ) (call : Call) (map : Map) (size household : ℕ) (key : Key)
    → has_ended (walked seats slots call size most_questions (started map size household key) map).lookup.stage ≡ true
