-- What the call that opens an election makes of the node.
use Rattle.std.specs.Prelude.{◌≡◌, true, false, List, ℕ, ◌+◌}
use Rattle.nodesets.specs.NodeSets.{has}
use Rattle.nodesets.specs.declared.NodeSet.{NodeSet}
use Rattle.answers.specs.declared.Answer.TheVariants.{Done}
use Rattle.state.specs.Node.{voting_master}
use Rattle.state.specs.Changes.{with_clock, with_current, with_election}
use Rattle.state.specs.declared.Node.{Node}
use Rattle.soundness.specs.Sound.{sound}
use Rattle.state.specs.Node.{an_election}
use Rattle.openings.specs.Openings.{opens}

-- node n, lent that slot table, became n', in which a new election is open
pub record NewElection (slots : List ℕ) (n n' : Node) : Type 0 where
  pub epoch : ℕ
  pub opened : ℕ
  pub voters : NodeSet
  pub heard : NodeSet
  pub election : n'.election ≡ an_election epoch opened voters heard
  -- currentEpoch goes up by 1 and is its epoch; it is opened now
  pub raised : epoch ≡ n.current + 1
  pub current : n'.current ≡ epoch
  pub since : opened ≡ n'.clock
  -- its set is the voting masters then, none heard
  pub voting : (k : ℕ) → has voters k ≡ voting_master n slots k
  pub unheard : (k : ℕ) → has heard k ≡ false

module _ (n : Node) (slots : List ℕ) (time : ℕ) where
  abbrev after : Node
  after = (opens n slots time).node

  pub record OpeningLaws : Type 0 where
    -- 0: it is opened, and replaces any older one
    pub opened : (opens n slots time).answer ≡ Done → NewElection slots n after
    -- any other answer leaves all but the clock as it was
    pub refused : ((opens n slots time).answer ≡ Done → ⊥) → after ≡ with_clock after.clock n
    -- nothing changes but the clock, currentEpoch and the election
    pub rest : after ≡ with_election after.election (with_current after.current (with_clock after.clock n))
    -- a sound state stays sound
    pub stays_sound : sound n ≡ true → sound after ≡ true
