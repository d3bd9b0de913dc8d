-- One call: what it has to show, and the laws by which records and entries show it.
use mathlib.Core.Path.{◌≡◌, refl, sym, ap, ◌∙◌}
use mathlib.Core.Logic.{inl}
use mathlib.Core.Bool.{false}
use mathlib.Core.List.{List}
use Prim.Native.Nat.{ℕ, ◌≤◌}
use native.Mathlib.Nat.{le_refl}
use native.Mathlib.Omega.{arith}
use Rattle.state.specs.Node.{blank, record_at, is_master}
use Rattle.state.specs.Changes.{with_record, with_records}
use Rattle.state.specs.Outcomes.{Stepped}
use Rattle.state.specs.declared.Node.{Node}
use Rattle.state.specs.declared.Record.{Record}
use Rattle.tables.proofs.Lists.{at_set}
use Rattle.monotone.specs.Runs.{World}
use Rattle.monotone.specs.NeverSlidesBack.{Onward}

-- The invariant: this node's own configEpoch is 0 as long as it is a replica.
abbrev pub AtZero : Record → Type 0
AtZero r = is_master r.role ≡ false → r.config ≡ 0

abbrev pub ReplicaAtZero : Node → Type 0
ReplicaAtZero n = AtZero (record_at n n.me)

-- what each call shows, where the invariant holds before it
pub record Moves (a b : World) : Type 0 where
  pub at_zero : ReplicaAtZero b.node
  pub onward : Onward a b

abbrev pub world : Node → List ℕ → List ℕ → World
world n slots reports = record { node = n; tables = record { slots = slots; reports = reports } }

-- what a call leaves
abbrev pub left : Stepped → World
left s = world s.outcome.node s.slots s.reports

-- ---- one record written anew

-- no known configEpoch falls
abbrev pub Rising : Node → Node → Type 0
Rising n m = (k : ℕ) → (record_at n k).config ≤ (record_at m k).config

module _ (n : Node) (j : ℕ) (x : Record) where
  pub rising_at : (record_at n j).config ≤ x.config → Rising n (with_record j x n)
  unfolding with_records
  rising_at h k = at_set (λ (r : Record). (record_at n k).config ≤ r.config) n.records j x blank k (le_refl _) (λ e. rw e h)

  pub zero_at : ReplicaAtZero n → (n.me ≡ j → AtZero x) → ReplicaAtZero (with_record j x n)
  unfolding with_records
  zero_at h f = at_set AtZero n.records j x blank n.me h f

-- ---- a call that keeps the slot table, roles and configEpochs

pub record Alike (a b : Record) : Type 0 where
  pub role : b.role ≡ a.role
  pub config : b.config ≡ a.config

pub alike : (r : Record) → Alike r r
alike r = record { role = refl; config = refl }

pub record Quiet (n m : Node) : Type 0 where
  pub size : m.size ≡ n.size
  pub me : m.me ≡ n.me
  pub records : (k : ℕ) → Alike (record_at n k) (record_at m k)

pub quiet_moves : (n m : Node) (slots reports reports' : List ℕ) → Quiet n m → ReplicaAtZero n → Moves (world n slots reports) (world m slots reports')
quiet_moves n m slots reports reports' q h = record {
  at_zero = rw q.me (λ f. own.config ∙ h (ap is_master (sym own.role) ∙ f));
  onward = record {
    size = q.size;
    epochs = λ k. let e = (q.records k).config in omega (arith, e);
    owners = λ s l o. inl refl;
  };
}
  where
    own : Alike (record_at n n.me) (record_at m n.me)
    own = q.records n.me
