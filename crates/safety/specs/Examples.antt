-- Computed lists for demand 3: one in which a node wins, so that the statement is not empty; and for each proviso one that
-- breaks it alone, in which two nodes win the same epoch, so that both are needed. The first proviso has two, since sets differ
-- by the roles that are told or by the tables that are lent. The roster is that of the cases of document 01, once with two
-- masters more; every time in the lists is 0, and the epoch that is won is 1.
use Rattle.std.specs.Prelude.{◌≡◌, true, false, List, [], ◌∷◌, ◌++◌, map, ℕ, replicate, set}
use Rattle.tables.specs.Sizes.{report_count, unowned}
use Rattle.state.specs.declared.Role.TheVariants.{Replica}
use Rattle.fresh.specs.Fresh.{id_of}
use Rattle.frames.specs.Lines.{encode}
use Rattle.frames.specs.declared.Kind.{Kind}
use Rattle.frames.specs.declared.Kind.TheVariants.{Heartbeat, Fail, Request, Ack}
use Rattle.cases.specs.Cases.{ids, roles}
use Rattle.node.specs.Calls.{Tables, frame, opening}
use Rattle.safety.specs.Deeds.{Deed, granted, counted, won, opened, announced, other, Did, Counted, Won, before_opening, listed_master, voting_set}
use Rattle.safety.specs.Demand3.{Roster, master_by, SameSet, Made, history, AllGranted}

-- ---- the rosters

-- nodes 0, 1 and 2 are masters, 3 and 4 replicas of 0
abbrev pub roster : Roster
roster = record { ids = ids; roles = roles; size = 5 }

-- and 5 and 6 are masters too
abbrev pub wider : Roster
wider = record { ids = set (set ids 5 (id_of 5)) 6 (id_of 6); roles = roles; size = 7 }

abbrev pub timeouts : ℕ → ℕ
timeouts v = 1000

-- what a node of the first did
abbrev pub deeds : List Made → ℕ → List Deed
deeds ms v = history roster timeouts ms v

-- ---- lines: configEpochs and times are 0, and the bitmaps of kinds 1 and 4 claim slot 0; the heartbeats are of replicas,
-- whose claims count for nothing

abbrev pub line_of : ℕ → Kind → List ℕ
line_of epoch kind = encode (record { header = record { time = 0; epoch = epoch; config = 0 }; kind = kind }) (1 ∷ replicate 2047 0)

-- the sender is a replica of node 3 now
abbrev pub replica_line : ℕ → List ℕ
replica_line sender = line_of 0 (Heartbeat sender (Replica 3))

-- node 0 is FAIL
abbrev pub fail_line : ℕ → List ℕ
fail_line sender = line_of 0 (Fail sender 0)

-- a vote for epoch 1, asked for and given
abbrev pub request_line : ℕ → List ℕ
request_line candidate = line_of 1 (Request candidate)

abbrev pub ack_line : ℕ → ℕ → List ℕ
ack_line voter candidate = line_of 1 (Ack voter candidate)

-- ---- the calls, with the tables lent

-- node 0 owns slot 0, two others own a slot each, and the rest are unowned; nothing is reported
abbrev pub owned_by : ℕ → ℕ → Tables
owned_by first second = record { slots = 0 ∷ first ∷ second ∷ replicate 16381 unowned; reports = replicate report_count 0 }

-- where nothing else is said, the two others are the masters 1 and 2
abbrev pub tables : Tables
tables = owned_by 1 2

abbrev pub gets : ℕ → List ℕ → Made
gets node line = record { on = node; call = frame line; lent = tables }

abbrev pub opens_election : ℕ → Made
opens_election node = record { on = node; call = opening 0; lent = tables }

-- the same call, lent other tables
abbrev pub lending : Tables → Made → Made
lending t m = record { on = m.on; call = m.call; lent = t }

-- ---- a node wins

-- A candidate hears that its master is FAIL and opens. Two voters hear it too, and each grants its request. It counts one ack
-- and wins by the other. The latest comes first.
abbrev pub campaign : ℕ → ℕ → ℕ → List Made
campaign candidate first second =
    gets candidate (ack_line second candidate)
    ∷ gets candidate (ack_line first candidate)
    ∷ gets second (request_line candidate)
    ∷ gets second (fail_line first)
    ∷ gets first (request_line candidate)
    ∷ gets first (fail_line second)
    ∷ opens_election candidate
    ∷ gets candidate (fail_line first)
    ∷ []

-- node 3, by the votes of 1 and 2
unfoldable pub winning : List Made
winning = campaign 3 1 2

pub record ANodeWins : Type 0 where
  pub candidate : deeds winning 3 ≡ won 2 1 ∷ counted 1 1 ∷ opened tables.slots ∷ other ∷ []
  pub voter1 : deeds winning 1 ≡ granted 1 3 ∷ other ∷ []
  pub voter2 : deeds winning 2 ≡ granted 1 3 ∷ other ∷ []

-- ---- two nodes win the same epoch

-- nodes 3 and 4 win epoch 1, and had done that before their wins
pub record BothWin (r : Roster) (ms : List Made) (before3 before4 : List Deed) : Type 0 where
  pub first : Won 1 (history r timeouts ms 3) before3
  pub second : Won 1 (history r timeouts ms 4) before4

-- Sets that differ. Node 3 is told that nodes 0 and 2 are replicas, so that its set is node 1 alone; node 4 is told it of 0 and
-- 1, and its set is node 2 alone. Each voter grants what it acks.
unfoldable pub differing : List Made
differing =
    gets 4 (ack_line 2 4)
    ∷ gets 3 (ack_line 1 3)
    ∷ gets 2 (request_line 4)
    ∷ gets 2 (fail_line 1)
    ∷ gets 1 (request_line 3)
    ∷ gets 1 (fail_line 2)
    ∷ opens_election 4
    ∷ gets 4 (fail_line 1)
    ∷ gets 4 (replica_line 1)
    ∷ gets 4 (replica_line 0)
    ∷ opens_election 3
    ∷ gets 3 (fail_line 1)
    ∷ gets 3 (replica_line 2)
    ∷ gets 3 (replica_line 0)
    ∷ []

abbrev pub differing3 : List Deed
differing3 = opened tables.slots ∷ other ∷ announced 2 false ∷ announced 0 false ∷ []

abbrev pub differing4 : List Deed
differing4 = opened tables.slots ∷ other ∷ announced 1 false ∷ announced 0 false ∷ []

pub record SetsThatDiffer : Type 0 where
  pub both : BothWin roster differing differing3 differing4
  pub granted3 : AllGranted roster timeouts differing 3 1
  pub granted4 : AllGranted roster timeouts differing 4 1
  -- the first proviso is broken: node 1 is in the one set, and not in the other
  pub in3 : voting_set (master_by roster) 3 differing3 1 ≡ true
  pub not_in4 : voting_set (master_by roster) 4 differing4 1 ≡ false

-- Tables that differ. The roster is the wider one, and no heartbeat comes, so that nodes 3 and 4 list the same five masters. Node
-- 3 wins as above, and its set is 0, 1 and 2. Node 4 does the same with 5 and 6, which own a slot each by the tables lent there,
-- while 1 and 2 own none, so that its set is 0, 5 and 6. Each voter grants what it acks.
unfoldable pub dividing : List Made
dividing = map (lending (owned_by 5 6)) (campaign 4 5 6) ++ winning

abbrev pub dividing3 : List Deed
dividing3 = counted 1 1 ∷ opened (owned_by 1 2).slots ∷ other ∷ []

abbrev pub dividing4 : List Deed
dividing4 = counted 5 1 ∷ opened (owned_by 5 6).slots ∷ other ∷ []

pub record TablesThatDiffer : Type 0 where
  pub both : BothWin wider dividing dividing3 dividing4
  pub granted3 : AllGranted wider timeouts dividing 3 1
  pub granted4 : AllGranted wider timeouts dividing 4 1
  -- the same masters are listed at both openings
  pub same_masters : (k : ℕ) → listed_master (master_by wider) (before_opening dividing3) k ≡ listed_master (master_by wider) (before_opening dividing4) k
  -- the first proviso is broken all the same: node 1 is in the one set, and not in the other
  pub in3 : voting_set (master_by wider) 3 dividing3 1 ≡ true
  pub not_in4 : voting_set (master_by wider) 4 dividing4 1 ≡ false

-- Acks that nobody granted. Node 3 wins as above; then node 4 opens, with the same set, and gets acks of voters that granted
-- the epoch to node 3.
unfoldable pub made_up_acks : List Made
made_up_acks = gets 4 (ack_line 2 4) ∷ gets 4 (ack_line 1 4) ∷ opens_election 4 ∷ gets 4 (fail_line 1) ∷ winning

abbrev pub before_win : List Deed
before_win = counted 1 1 ∷ opened tables.slots ∷ other ∷ []

pub record AcksMadeUp : Type 0 where
  pub both : BothWin roster made_up_acks before_win before_win
  pub sets : SameSet roster 3 before_win 4 before_win
  pub granted3 : AllGranted roster timeouts made_up_acks 3 1
  -- the second is broken: node 4 counted an ack of node 1, which did not grant it the epoch
  pub counted4 : Counted 1 1 (deeds made_up_acks 4)
  pub ungranted : Did (granted 1 4) (deeds made_up_acks 1) → ⊥

pub record Examples : Type 0 where
  pub wins : ANodeWins
  pub differ : SetsThatDiffer
  pub tables_differ : TablesThatDiffer
  pub made_up : AcksMadeUp
