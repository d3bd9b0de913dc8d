-- Computed lists: a slot passes twice, by a win and by a claim, each time to a greater configEpoch; a win whose old master rose
-- after the opening, by which nothing passes, and by which ownership slid back before [14]; and one from a state that no list
-- leads to. This node is node 3 of the cases of document 01, a replica of node 0; every time is 0. The latest call comes first.
use Rattle.std.specs.Prelude.{ℕ, ◌≡◌, true, List, [], ◌∷◌, replicate}
use Rattle.tables.specs.Sizes.{report_count, unowned}
use Rattle.answers.specs.declared.Answer.{Answer}
use Rattle.answers.specs.declared.Answer.TheVariants.{Won}
use Rattle.state.specs.Node.{master_at}
use Rattle.state.specs.Changes.{with_config, with_current, on_record}
use Rattle.state.specs.declared.Role.TheVariants.{Master}
use Rattle.soundness.specs.Sound.{sound}
use Rattle.frames.specs.Lines.{encode}
use Rattle.frames.specs.declared.Kind.{Kind}
use Rattle.frames.specs.declared.Kind.TheVariants.{Heartbeat, Fail, Ack}
use Rattle.node.specs.Calls.{Tables, Call, frame, opening, outcome}
use Rattle.safety.specs.Examples.{roster}
use Rattle.monotone.specs.Runs.{World, after, run, fresh}
use Rattle.monotone.specs.NeverSlidesBack.{epoch_of, owner, owners_epoch, NeverSlidesBack}
use Rattle.monotone.specs.Before.{before14}

-- ---- the calls

-- nodes 1 and 2, whose votes are asked for, own slots 1 and 2, nobody another one, and nothing is reported
abbrev pub others : List ℕ
others = 1 ∷ 2 ∷ replicate 16381 unowned

abbrev pub tables : Tables
tables = record { slots = unowned ∷ others; reports = replicate report_count 0 }

unfoldable pub start : World
start = fresh roster 3 1000 tables

-- a line's epochs are one number, and a bitmap claims slot 0
abbrev pub gets : ℕ → Kind → Call
gets epoch kind = frame (encode (record { header = record { time = 0; epoch = epoch; config = epoch }; kind = kind }) (1 ∷ replicate 2047 0))

-- a master claims slot 0; node 0 is FAIL; a vote for this node
abbrev pub claims : ℕ → ℕ → Call
claims sender epoch = gets epoch (Heartbeat sender Master)

abbrev pub fails : Call
fails = gets 0 (Fail 1 0)

abbrev pub votes : ℕ → ℕ → Call
votes voter epoch = gets epoch (Ack voter 3)

-- ---- the lists

-- node 0 owns the slot and fails, this node opens for epoch 2, and one vote is counted
unfoldable pub opened : List Call
opened = votes 1 2 ∷ opening 0 ∷ fails ∷ claims 0 1 ∷ []

-- it wins by another vote, and then a claim beats it
unfoldable pub wins : List Call
wins = votes 2 2 ∷ opened

unfoldable pub beaten : List Call
beaten = claims 1 3 ∷ wins

-- node 0 comes back with epoch 5 before that vote does
unfoldable pub back : List Call
back = claims 0 5 ∷ opened

unfoldable pub wins_all_the_same : List Call
wins_all_the_same = votes 2 2 ∷ back

-- ---- what comes of them

-- who owns slot 0, and the known configEpoch of that node
abbrev pub slot0 : World → ℕ × ℕ
slot0 w = (owner w 0, owners_epoch w 0)

-- what the vote is answered that wins
abbrev pub last_answer : World → Answer
last_answer w = (outcome w.node w.tables (votes 2 2)).answer

-- each time the slot passes, it does so to a greater epoch
pub record PassesTwice : Type 0 where
  pub bound : slot0 (run after start opened) ≡ (0, 1)
  pub by_a_win : slot0 (run after start wins) ≡ (3, 2)
  pub told : last_answer (run after start opened) ≡ Won 1
  pub by_a_claim : slot0 (run after start beaten) ≡ (1, 3)

-- the slot stays, and its owner's epoch, which a winner of epoch 2 does not reach
pub record NothingPasses : Type 0 where
  pub risen : slot0 (run after start back) ≡ (0, 5)
  pub stays : slot0 (run after start wins_all_the_same) ≡ (0, 5)
  pub told : last_answer (run after start back) ≡ Won 0
  -- the winner is a master all the same
  pub master : master_at (run after start wins_all_the_same).node 3 ≡ true
  pub epoch : epoch_of (run after start wins_all_the_same) 3 ≡ 2

-- before [14] it passed all the same, so that the theorem does not hold of that step
pub record SlidBack : Type 0 where
  pub risen : slot0 (run before14 start back) ≡ (0, 5)
  pub fallen : slot0 (run before14 start wins_all_the_same) ≡ (3, 2)
  pub refuted : NeverSlidesBack before14 start → ⊥

-- A state that was restored may be any sound one, as this: before the last vote this node, a replica, is said to have
-- configEpoch 5 and to own the slot
abbrev pub restored_as : World → World
restored_as w = record {
  node = with_current 5 (on_record 3 (with_config 5) w.node);
  tables = record { slots = 3 ∷ others; reports = w.tables.reports };
}

abbrev pub restored : World
restored = restored_as (run after start opened)

-- the vote wins epoch 2, and its own epoch falls: the theorem is about a fresh start
pub record NotFromAnyState : Type 0 where
  pub is_sound : sound restored.node ≡ true
  pub owns : slot0 restored ≡ (3, 5)
  pub fallen : slot0 (run after restored (votes 2 2 ∷ [])) ≡ (3, 2)
  pub refuted : NeverSlidesBack after restored → ⊥

pub record Examples : Type 0 where
  pub twice : PassesTwice
  pub nothing : NothingPasses
  pub slid_back : SlidBack
  pub not_from_any_state : NotFromAnyState
