-- Laws of what failure detection leaves as it was: nothing changed, one record changed, one change after another.
use mathlib.Core.Path.{◌≡◌, refl, sym, ap, subst, ◌∙◌}
use mathlib.Core.Bool.{false}
use mathlib.Core.List.{List}
use Prim.Native.Nat.{ℕ, ◌≤◌, ◌<◌}
use lib.ListN.{length, set, length-set}
use lib.Seq.{get_or-set_same, get_or-set_other}
use Rattle.tables.proofs.Lists.{at_set}
use Rattle.nodesets.specs.declared.NodeSet.{NodeSet}
use Rattle.state.specs.Node.{blank, record_at, master_at, is_pfail}
use Rattle.state.specs.Changes.{with_record, with_records, with_ping, with_flag, on_record}
use Rattle.state.specs.declared.Node.{Node}
use Rattle.state.specs.declared.Record.{Record}
use Rattle.state.specs.declared.Flag.{Flag}
use Rattle.failure.specs.Failure.{recent, signals, most_signal, flag_if_signalled, looked_at}
use Rattle.failure.proofs.Records.{record_out, record_back}
use Rattle.failure.specs.Keeps.{Only, FlagsOnly, Kept, OthersKept, EntriesKept}

-- ---- whatever is taken from the new records

module _ (taking : Record → Record → Record) (same : (r : Record) → r ≡ taking r r) where
  pub only_same : (n : Node) → Only taking n n
  unfolding with_records
  only_same n = record { rest = refl; room = refl; records = λ k. same (record_at n k) }

  pub only_one : (n : Node) (s : ℕ) (x : Record) → x ≡ taking x (record_at n s) → Only taking n (with_record s x n)
  unfolding with_records
  only_one n s x h = record {
    rest = refl;
    room = length-set n.records s x;
    records = λ k. at_set (λ (r : Record). r ≡ taking r (record_at n k)) n.records s x blank k (same (record_at n k)) (λ e. rw e h);
  }

  pub only_then : ((x y z : Record) → taking x (taking y z) ≡ taking x z) → (a b c : Node) → Only taking a b → Only taking b c → Only taking a c
  unfolding with_records
  only_then f a b c h g = record {
    rest = g.rest ∙ ap (with_records c.records) h.rest;
    room = g.room ∙ h.room;
    records = λ k. g.records k ∙ ap (taking (record_at c k)) (h.records k) ∙ f (record_at c k) (record_at b k) (record_at a k);
  }

-- ---- flags; pings; both

module _ (n : Node) where
  pub flags_same : FlagsOnly n n
  flags_same = only_same _ (λ r. refl) n

  pub flag_set : (s : ℕ) (f : Flag) → FlagsOnly n (on_record s (with_flag f) n)
  flag_set s f = only_one _ (λ r. refl) n s (with_flag f (record_at n s)) refl

pub flags_then : (a b c : Node) → FlagsOnly a b → FlagsOnly b c → FlagsOnly a c
flags_then = only_then _ (λ r. refl) (λ x y z. refl)

pub flags_kept : (a b : Node) → FlagsOnly a b → Kept a b
flags_kept a b h = record {
  rest = h.rest;
  room = h.room;
  records = λ k. subst (λ (r : Record). r ≡ with_ping r.ping (with_flag r.flag (record_at a k))) (sym (h.records k)) refl;
}

-- ---- other records, and entries of a table

pub others_same : (s : ℕ) (n : Node) → OthersKept s n n
others_same s n k d = refl

pub others_one : (n : Node) (s : ℕ) (x : Record) → OthersKept s n (with_record s x n)
unfolding with_records
others_one n s x k d = get_or-set_other n.records s k x blank d

pub entry_set : (l : List ℕ) (k x : ℕ) → EntriesKept k l (set l k x)
entry_set l k x = record { long = length-set l k x; others = λ j d. get_or-set_other l k j x 0 d }

-- ---- what is the same after a change of records: numbers, masters, and the look at a node

module _ {taking : Record → Record → Record} (a b : Node) (h : Only taking a b) where
  pub size_kept : b.size ≡ a.size
  unfolding with_records
  size_kept = ap (λ (n : Node). n.size) h.rest

  pub me_kept : b.me ≡ a.me
  unfolding with_records
  me_kept = ap (λ (n : Node). n.me) h.rest

  pub clock_kept : b.clock ≡ a.clock
  unfolding with_records
  clock_kept = ap (λ (n : Node). n.clock) h.rest

  pub signalled_like : (voters : NodeSet) (reports : List ℕ) (k : ℕ) (f : Flag) → flag_if_signalled b voters reports k f ≡ flag_if_signalled a voters reports k f
  unfolding with_records flag_if_signalled most_signal signals recent
  signalled_like voters reports k f = ap (λ (n : Node). flag_if_signalled n voters reports k f) h.rest

pub role_kept : (a b : Node) → Kept a b → (k : ℕ) → (record_at b k).role ≡ (record_at a k).role
role_kept a b h k = ap (λ (r : Record). r.role) (h.records k)

pub master_kept : (a b : Node) → Kept a b → (k : ℕ) → master_at b k ≡ master_at a k
master_kept a b h k = rw (size_kept a b h, role_kept a b h k)

-- ---- the look at one node

pub looked_flags : (voters : NodeSet) (reports : List ℕ) (s : ℕ) (n : Node) → FlagsOnly n (looked_at voters reports s n)
unfolding looked_at
looked_flags voters reports s n = flag_set n s (flag_if_signalled n voters reports s (record_at n s).flag)

pub looked_others : (voters : NodeSet) (reports : List ℕ) (s : ℕ) (n : Node) → OthersKept s n (looked_at voters reports s n)
unfolding looked_at
looked_others voters reports s n = others_one n s (with_flag (flag_if_signalled n voters reports s (record_at n s).flag) (record_at n s))

-- past the records, and where the node is not PFAIL, the look changes nothing
pub looked_out : (voters : NodeSet) (reports : List ℕ) (s : ℕ) (n : Node) → length n.records ≤ s → looked_at voters reports s n ≡ n
unfolding looked_at
looked_out voters reports s n l = record_out n s (with_flag (flag_if_signalled n voters reports s (record_at n s).flag) (record_at n s)) l

pub looked_alone : (voters : NodeSet) (reports : List ℕ) (s : ℕ) (n : Node) → is_pfail (record_at n s).flag ≡ false → looked_at voters reports s n ≡ n
unfolding looked_at flag_if_signalled
looked_alone voters reports s n e =
    let q : flag_if_signalled n voters reports s (record_at n s).flag ≡ (record_at n s).flag = rw e in
    ap (λ (f : Flag). with_record s (with_flag f (record_at n s)) n) q ∙ record_back n s

pub looked_flag : (voters : NodeSet) (reports : List ℕ) (s : ℕ) (n : Node) → s < length n.records → (record_at (looked_at voters reports s n) s).flag ≡ flag_if_signalled n voters reports s (record_at n s).flag
unfolding looked_at with_records
looked_flag voters reports s n l = ap (λ (r : Record). r.flag) (get_or-set_same n.records s (with_flag (flag_if_signalled n voters reports s (record_at n s).flag) (record_at n s)) blank l)
