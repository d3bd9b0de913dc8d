-- A win: what passes, and that it passes up.
use mathlib.Core.Path.{◌≡◌, refl, sym, ap, ◌∙◌}
use mathlib.Core.Logic.{◌⊎◌, inl, inr}
use mathlib.Core.Bool.{Bool, true, false, cond}
use mathlib.Core.List.{List}
use Prim.Native.Nat.{ℕ, ◌<◌}
use native.Mathlib.Omega.{arith}
use lib.ListN.{length}
use lib.Seq.{get_or-set_same}
use Rattle.tables.specs.Sizes.{slot_count}
use Rattle.tables.proofs.Checks.{never}
use Rattle.tables.proofs.Walks.{mapped_at}
use Rattle.state.specs.Node.{blank, record_at, is_master}
use Rattle.state.specs.Changes.{with_records, with_election}
use Rattle.state.specs.declared.Node.{Node}
use Rattle.state.specs.declared.Record.{Record}
use Rattle.soundness.specs.Sound.{sound}
use Rattle.soundness.proofs.Facts.{all_records, few_nodes, me_listed}
use Rattle.wins.specs.Wins.{yields, winner, promoted, won}
use Rattle.wins.proofs.Passing.{from_old_master}
use Rattle.acks.proofs.Laws.{yielded_by_another}
use Rattle.monotone.specs.Runs.{World}
use Rattle.monotone.specs.NeverSlidesBack.{owner, Owned, PassesUp}
use Rattle.monotone.proofs.Onward.{ReplicaAtZero, Moves, world, Rising, rising_at, zero_at}

-- the node has an election open, so it is a replica
module _ (n : Node) (slots reports : List ℕ) (epoch : ℕ) (h : sound n ≡ true) (replica : is_master (record_at n n.me).role ≡ false) (z : ReplicaAtZero n) where
  abbrev before : World
  before = world n slots reports

  abbrev after : World
  after = let x = won n slots epoch in world x.outcome.node x.slots reports

  win_rising : Rising n (promoted epoch n)
  unfolding promoted with_election
  win_rising = rising_at n n.me (winner epoch (record_at n n.me)) (let e = z replica in omega (arith, e))

  win_zero : ReplicaAtZero (promoted epoch n)
  unfolding promoted with_election with_records
  win_zero = zero_at n n.me (winner epoch (record_at n n.me)) z (λ e f. never f)

  win_size : (promoted epoch n).size ≡ n.size
  unfolding promoted with_election with_records
  win_size = refl

  win_config : (record_at (promoted epoch n) n.me).config ≡ epoch
  unfolding promoted with_election with_records
  win_config = ap (λ (r : Record). r.config) (get_or-set_same n.records n.me (winner epoch (record_at n n.me)) blank (omega (arith, me_listed n h, all_records n h, few_nodes n h)))

  module _ (s : ℕ) (l : s < length slots) (o : Owned before s) where
    entry : owner after s ≡ cond (yields n epoch (owner before s)) n.me (owner before s)
    entry = mapped_at (λ k o. cond (yields n epoch o) n.me o) 0 slots s 0 0 l

    -- the old master is another, below the election's epoch
    passes_up : yields n epoch (owner before s) ≡ true → owner after s ≡ n.me → PassesUp before after s
    passes_up e g = record {
      another = λ q. yielded_by_another n epoch h (owner before s) e (sym q ∙ g);
      owned = rw (g, win_size) (me_listed n h);
      above = rw (g, win_config) (from_old_master n epoch (owner before s) e).1;
    }

    win_owners : (owner after s ≡ owner before s) ⊎ PassesUp before after s
    win_owners = by (yields n epoch (owner before s)) refl entry
      where
        by : (b : Bool) → yields n epoch (owner before s) ≡ b → owner after s ≡ cond b n.me (owner before s) → (owner after s ≡ owner before s) ⊎ PassesUp before after s
        by true e g = inr (passes_up e g)
        by false e g = inl g

  pub win_moves : length slots ≡ slot_count → Moves before after
  win_moves long = record {
    at_zero = win_zero;
    onward = record { size = win_size; epochs = win_rising; owners = λ s l o. win_owners s (omega (arith, long, l)) o };
  }
