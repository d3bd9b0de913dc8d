-- One heartbeat handed to a node again and again, by either engine of the rule, for callers that pass numbers and tables only.
use Rattle.std.specs.Prelude.{ℕ, zero, suc, ◌+◌, ◌%◌, List, [], ◌∷◌, ◌++◌, map, get_or, replicate}
use Rattle.tables.specs.Below.{in_turn}
use Rattle.tables.specs.Sizes.{node_room}
use Rattle.answers.specs.Answers.{Values, no_values, counts, at_slot, passed, ranges, said}
use Rattle.answers.specs.declared.Answer.{Answer}
use Rattle.answers.specs.declared.Answer.TheVariants.{Done}
use Rattle.digests.specs.Digest.{digest}
use Rattle.state.specs.Changes.{with_config, with_current, with_record}
use Rattle.state.specs.Outcomes.{answered, Slotted}
use Rattle.state.specs.declared.Node.{Node}
use Rattle.state.specs.declared.Record.{Record}
use Rattle.state.specs.declared.Role.{Role}
use Rattle.state.specs.declared.Role.TheVariants.{Master, Replica}
use Rattle.fresh.specs.Fresh.{newcomer, fresh_node, ids_of}

-- ---- a node in numbers

-- a role: 0 is a master, m + 1 a replica of m; a node's number is one byte
abbrev pub role_of : ℕ → Role
role_of zero = Master
role_of (suc m) = Replica (m % 256)

abbrev pub role_number : Role → ℕ
role_number Master = 0
role_number (Replica m) = m + 1

-- what is known of a node, and nothing else: its role and its configEpoch
abbrev pub known_of : ℕ → ℕ → Record
known_of role config = with_config config (newcomer (role_of role))

-- node k as it is lent
abbrev pub lent_at : List ℕ → List ℕ → ℕ → Node → Node
lent_at epochs roles k n = with_record k (known_of (get_or roles k 0) (get_or epochs k 0)) n

-- a node of a numbered roster with these roles and known configEpochs, currentEpoch behind them; all else is fresh
unfoldable pub node_of : List ℕ → List ℕ → ℕ → ℕ → Node
node_of epochs roles size me =
    with_current (get_or epochs node_room 0) (in_turn (lent_at epochs roles) node_room (fresh_node (ids_of node_room) (replicate node_room Master) size me 1000))

-- and back
abbrev pub config_of : Record → ℕ
config_of r = r.config

abbrev pub epochs_of : Node → List ℕ
epochs_of n = map config_of n.records ++ n.current ∷ []

abbrev pub role_number_of : Record → ℕ
role_number_of r = role_number r.role

abbrev pub roles_of : Node → List ℕ
roles_of n = map role_number_of n.records

-- ---- again and again

-- an engine with its heartbeat makes something of a node and a table: so many times, each time of what the last one left
unfoldable pub again : (Node → List ℕ → Slotted) → ℕ → Slotted → Slotted
again engine zero s = s
again engine (suc times) s = again engine times (engine s.outcome.node s.slots)

-- before the first time
abbrev pub unheard : Node → List ℕ → Slotted
unheard node slots = record { outcome = answered node Done; slots = slots }

-- ---- what is told

-- an answer's counts and stale slot in one number, 0 where it has none, as before the first heartbeat
abbrev pub values_digest : Values → ℕ
values_digest no_values = 0
values_digest (counts bound rebound stale) = digest (record { bound = bound; rebound = rebound; stale = stale })
values_digest (at_slot s) = 0
values_digest (passed n) = 0
values_digest (ranges n) = 0

abbrev pub answer_digest : Answer → ℕ
answer_digest a = values_digest (said a).values

pub record Digested : Type 0 where
  pub digest : ℕ
  pub epochs : List ℕ
  pub roles : List ℕ
  pub slots : List ℕ

-- the last answer, and the node and the table as they were left
abbrev pub digested : Slotted → Digested
digested s = record {
  digest = answer_digest s.outcome.answer;
  epochs = epochs_of s.outcome.node;
  roles = roles_of s.outcome.node;
  slots = s.slots;
}

abbrev pub handed : (Node → List ℕ → Slotted) → ℕ → Node → List ℕ → Digested
handed engine times node slots = digested (again engine times (unheard node slots))
