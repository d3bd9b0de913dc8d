-- When a vote is granted: the conditions of document 01, "Vote request", and of document 02, [3] and [10], each as a
-- statement; and what a request makes of the node. Now is the clock.
use Rattle.std.specs.Prelude.{ℕ, ◌*◌, ◌≤◌, ◌<◌, ◌≡◌, true, List, length, get_or, Some}
use Rattle.tables.specs.Sets.{claimed}
use Rattle.ages.specs.Ages.{age}
use Rattle.answers.specs.declared.Answer.TheVariants.{Granted}
use Rattle.state.specs.Node.{record_at, role_at, followed}
use Rattle.state.specs.declared.Node.{Node}
use Rattle.state.specs.declared.Role.TheVariants.{Master, Replica}
use Rattle.state.specs.declared.Flag.TheVariants.{Fail}
use Rattle.state.specs.declared.Outcome.{Outcome}
use Rattle.soundness.specs.Sound.{sound}
use Rattle.votes.specs.Votes.{granted, requested}

-- a node of the roster that is recorded as a master
pub record ListedMaster (n : Node) (k : ℕ) : Type 0 where
  pub listed : k < n.size
  pub master : (record_at n k).role ≡ Master

-- a node of the roster that is recorded as a replica of that one
pub record ListedReplica (n : Node) (k m : ℕ) : Type 0 where
  pub listed : k < n.size
  pub replica : (record_at n k).role ≡ Replica m

pub record Grantable (n : Node) (slots bitmap : List ℕ) (candidate epoch config : ℕ) : Type 0 where
  -- this node is a master
  pub own : ListedMaster n n.me
  -- and owns some slot of the table
  pub own_slot : ℕ
  pub owned : own_slot < length slots
  pub mine : get_or slots own_slot 0 ≡ n.me
  -- the epoch is not below currentEpoch, and above lastVoteEpoch
  pub current : n.current ≤ epoch
  pub unvoted : n.voted < epoch
  -- the candidate is a replica of a listed master
  pub m : ℕ
  pub candidate_follows : ListedReplica n candidate m
  pub master : ListedMaster n m
  -- the request claims some slot, whoever owns it
  pub slot : ℕ
  pub claims : claimed bitmap slot ≡ true
  -- that master is FAIL, since some time
  pub since : ℕ
  pub fail : (record_at n m).flag ≡ Fail since
  -- no vote for one of its replicas is less than 2T old
  pub rested : (t : ℕ) → (record_at n m).vote ≡ Some t → 2 * n.timeout ≤ age n.clock t
  -- no claimed slot has an owner in the roster with a configEpoch above the request's
  pub owners : (slot : ℕ) → slot < length slots → claimed bitmap slot ≡ true → get_or slots slot 0 < n.size → (record_at n (get_or slots slot 0)).config ≤ config

module _ (n : Node) (slots bitmap : List ℕ) (candidate epoch config : ℕ) where
  abbrev outcome : Outcome
  outcome = requested n slots bitmap candidate epoch config

  abbrev Holds : Type 0
  Holds = Grantable n slots bitmap candidate epoch config

  pub record RequestLaws : Type 0 where
    -- the answer is 10 exactly when every condition holds
    pub if : Holds → outcome.answer ≡ Granted
    pub only_if : outcome.answer ≡ Granted → Holds
    -- 10: lastVoteEpoch is the epoch, the vote time of the candidate's master is now, and nothing else changes
    pub grant : outcome.answer ≡ Granted → outcome.node ≡ granted (followed (role_at n candidate)) epoch n
    -- any other answer leaves the node as it was
    pub refused : (outcome.answer ≡ Granted → ⊥) → outcome.node ≡ n
    -- a sound state stays sound; the epoch is not above currentEpoch, which has risen to it
    pub stays_sound : sound n ≡ true → epoch ≤ n.current → sound outcome.node ≡ true
