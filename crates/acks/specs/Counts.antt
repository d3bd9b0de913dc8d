-- What an ack makes of the node and of the slot table. The clock and currentEpoch have moved.
use Rattle.std.specs.Prelude.{◌≡◌, true, false, ◌||◌, List, ℕ, ◌*◌, ◌≤◌, ◌<◌, eqb}
use Rattle.tables.specs.Lists.{changed_from}
use Rattle.ages.specs.Ages.{age, ack_too_late}
use Rattle.nodesets.specs.NodeSets.{has, count}
use Rattle.nodesets.specs.declared.NodeSet.{NodeSet}
use Rattle.answers.specs.Answers.{number}
use Rattle.answers.specs.declared.Answer.TheVariants.{Done, Won}
use Rattle.state.specs.Changes.{with_election}
use Rattle.state.specs.Outcomes.{Slotted}
use Rattle.state.specs.declared.Node.{Node}
use Rattle.soundness.specs.Sound.{sound}
use Rattle.state.specs.Node.{an_election}
use Rattle.acks.specs.Acks.{promoted, passing, acked}

-- none of 31 to 36 applies to the ack
pub record Hears (n : Node) (voter candidate epoch opened : ℕ) (voters heard : NodeSet) : Type 0 where
  -- 31 and 33: an election is open, and its epoch is the ack's
  pub running : n.election ≡ an_election epoch opened voters heard
  -- 32: this node is the candidate
  pub mine : candidate ≡ n.me
  -- 34: the voter is in the set
  pub voter_in : has voters voter ≡ true
  -- 35: it was opened no longer ago than the greater of 2T and 2,000 ms
  pub in_time : ack_too_late n.timeout (age n.clock opened) ≡ false
  -- 36: the voter is not heard already
  pub first : has heard voter ≡ false

-- an ack that counts: with it the voter is heard besides those heard before, and nobody else
pub record Counts (n : Node) (voter candidate epoch : ℕ) : Type 0 where
  pub opened : ℕ
  pub voters : NodeSet
  pub heard : NodeSet
  pub after : NodeSet
  pub hears : Hears n voter candidate epoch opened voters heard
  pub adds : (k : ℕ) → has after k ≡ (has heard k || eqb k voter)

-- what an ack leaves, o, by its answer
module _ (n : Node) (slots : List ℕ) (voter candidate epoch : ℕ) where
  -- 0: not more than half of the set are heard; the election goes on, and nothing else changes
  pub record GoesOn (o : Slotted) : Type 0 where
    pub counts : Counts n voter candidate epoch
    pub not_most : 2 * count counts.after ≤ count counts.voters
    pub node : o.outcome.node ≡ with_election (an_election epoch counts.opened counts.voters counts.after) n
    pub slots_kept : o.slots ≡ slots

  -- 30: more than half of the set are heard; this node is a master with that epoch as configEpoch, the election is closed,
  -- and the slots pass that do. The answer tells how many these are, which is how many entries changed
  pub record Wins (o : Slotted) : Type 0 where
    pub counts : Counts n voter candidate epoch
    pub most : count counts.voters < 2 * count counts.after
    pub node : o.outcome.node ≡ promoted epoch n
    pub slots_pass : o.slots ≡ (passing n slots epoch).slots
    pub told : o.outcome.answer ≡ Won (passing n slots epoch).count
    pub changed : sound n ≡ true → (passing n slots epoch).count ≡ changed_from (λ owner. true) slots o.slots

  abbrev hearing : Slotted
  hearing = acked n slots voter candidate epoch

  pub record AckLaws : Type 0 where
    pub goes_on : hearing.outcome.answer ≡ Done → GoesOn hearing
    pub wins : number hearing.outcome.answer ≡ 30 → Wins hearing
    -- any other answer leaves node and table as they were
    pub refused : (hearing.outcome.answer ≡ Done → ⊥) → (number hearing.outcome.answer ≡ 30 → ⊥) → (hearing.outcome.node ≡ n) × (hearing.slots ≡ slots)
    -- a sound state stays sound
    pub stays_sound : sound n ≡ true → sound hearing.outcome.node ≡ true
