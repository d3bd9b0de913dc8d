-- What a call sees of a node. Of two nodes of which the same is seen, what is read is equal, and what changes stays alike.
use mathlib.Core.Path.{◌≡◌, refl, sym, ap, subst, fun_ext, ◌∙◌}
use mathlib.Core.Bool.{Bool, true, false, cond}
use mathlib.Core.List.{List}
use Prim.Native.Nat.{ℕ, zero, suc, ◌<◌}
use native.Mathlib.Decide.{dec_lt}
use native.Mathlib.Omega.{arith}
use lib.Dec.{ltb}
use lib.ListN.{length, take, set, length-set, length-take}
use lib.Seq.{get_or-take, take-set-lt, take-set-le, set_out}
use borrow.Author.Tests.{ltb-true}
use Rattle.tables.specs.Below.{in_turn}
use Rattle.nodesets.specs.NodeSets.{gathered}
use Rattle.state.specs.Node.{record_at, blank, listed, is_master, master_at, role_at, owns, voting_master, voting_masters}
use Rattle.state.specs.Changes.{with_records, on_record}
use Rattle.state.specs.Same.{Held, held, Same}
use Rattle.state.specs.declared.Node.{Node}
use Rattle.state.specs.declared.Record.{Record}
use Rattle.state.specs.declared.Role.TheVariants.{Master}
use Rattle.soundness.specs.Sound.{arrays_whole, sound}
use Rattle.soundness.proofs.Alike as soundness

-- its state, and how long its arrays are
pub record Seen : Type 0 where
  pub held : Held
  pub ids : ℕ
  pub records : ℕ
  pub marks : ℕ

abbrev pub seen : Node → Seen
seen n = record { held = held n; ids = length n.ids; records = length n.records; marks = length n.marks }

abbrev pub Alike : Node → Node → Type 0
Alike a b = seen a ≡ seen b

-- a node that has a state and nothing more, its arrays ending with the roster and with the marks; and the state of such a node
abbrev pub bare : Held → Node
bare h = record { ids = h.ids; records = h.records; marks = h.marks; size = h.size; me = h.me; marked = h.marked; current = h.current; voted = h.voted; clock = h.clock; timeout = h.timeout; election = h.election }

abbrev pub state_of : Node → Held
state_of n = record { ids = n.ids; records = n.records; marks = n.marks; me = n.me; current = n.current; voted = n.voted; clock = n.clock; timeout = n.timeout; election = n.election; size = n.size; marked = n.marked }

-- ---- reading

-- what is read of a node is read of its state alone
abbrev pub Reads : {A : Type 0} → (Node → A) → Type 0
Reads f = (n : Node) → f (bare (held n)) ≡ f n

pub record_read : (k : ℕ) (n : Node) → k < n.size → record_at (bare (held n)) k ≡ record_at n k
record_read k n h = get_or-take n.size n.records k blank h

-- something of a listed node's record, and past the roster something else
pub listed_read : {A : Type 0} (f : Record → A) (past : A) (k : ℕ) → Reads (λ n. cond (listed n k) (f (record_at n k)) past)
listed_read f past k n = by (ltb k n.size) refl
  where
    by : (t : Bool) → ltb k n.size ≡ t → cond t (f (record_at (bare (held n)) k)) past ≡ cond t (f (record_at n k)) past
    by true e = ap f (record_read k n (ltb-true k n.size e))
    by false e = refl

pub master_read : (k : ℕ) → Reads (λ n. master_at n k)
master_read k = listed_read (λ r. is_master r.role) false k

pub role_read : (k : ℕ) → Reads (λ n. role_at n k)
role_read k = listed_read (λ r. r.role) Master k

pub voting_read : (slots : List ℕ) (k : ℕ) → Reads (λ n. voting_master n slots k)
voting_read slots k n = ap (λ (t : Bool). cond t (owns slots k) false) (master_read k n)

pub voters_read : (slots : List ℕ) → Reads (λ n. voting_masters n slots)
voters_read slots n = ap gathered (fun_ext (λ k. voting_read slots k n))

-- ---- changing

-- a change of the state, the arrays as long as they were
abbrev pub on : (Node → Node) → Seen → Seen
on f s = record { held = state_of (f (bare s.held)); ids = s.ids; records = s.records; marks = s.marks }

-- what is changed of a node is changed of its state alone
abbrev pub Changes : (Node → Node) → Type 0
Changes f = (n : Node) → on f (seen n) ≡ seen (f n)

pub both_change : (f g : Node → Node) → Changes f → Changes g → Changes (λ n. g (f n))
both_change f g p q n = ap (on g) (p n) ∙ q (f n)

pub all_change : (f : ℕ → Node → Node) → ((k : ℕ) → Changes (f k)) → (m : ℕ) → Changes (in_turn f m)
unfolding in_turn
all_change f p zero n = refl
all_change f p (suc m) n = both_change (in_turn f m) (f m) (all_change f p m) (p m) n

-- a record changed by what is read of the node; past the roster no record is part of the state
pub record_change : (k : ℕ) (f : Node → Record → Record) → Reads f → Changes (λ n. on_record k (f n) n)
unfolding with_records
record_change k f p n = λ i. record { held = state_of (with_records (records i) (bare (held n))); ids = length n.ids; records = sym (length-set n.records k (f n (record_at n k))) i; marks = length n.marks }
  where
    by : Dec (k < n.size) → set (held n).records k (f (bare (held n)) (record_at (bare (held n)) k)) ≡ take n.size (set n.records k (f n (record_at n k)))
    by (yes h) = (λ i. set (held n).records k (p n i (record_read k n h i))) ∙ sym (take-set-lt n.size n.records k _ h)
    by (no h) = set_out (held n).records k _ (omega (arith, length-take n.size n.records)) ∙ sym (take-set-le n.size n.records k _ (omega arith))

    records : set (held n).records k (f (bare (held n)) (record_at (bare (held n)) k)) ≡ take n.size (set n.records k (f n (record_at n k)))
    records = by (dec_lt k n.size)

-- ---- two nodes of which the same is seen

module _ (a b : Node) (e : Alike a b) where
  pub alike_same : Same a b
  alike_same = ap (λ (s : Seen). s.held) e

  pub alike_sound : sound a ≡ sound b
  unfolding arrays_whole
  alike_sound = soundness.alike_sound a b alike_same (let i = ap (λ (s : Seen). s.ids) e in let r = ap (λ (s : Seen). s.records) e in let m = ap (λ (s : Seen). s.marks) e in rw (i, r, m))

  -- what can be told from what is seen is equal
  pub from_seen : {A : Type 0} (g : Seen → A) (f : Node → A) → ((n : Node) → g (seen n) ≡ f n) → f a ≡ f b
  from_seen g f p = sym (p a) ∙ ap g e ∙ p b

  pub reads_alike : {A : Type 0} (f : Node → A) → Reads f → f a ≡ f b
  reads_alike f p = from_seen (λ s. f (bare s.held)) f p

  -- what is read of the state where something holds of it
  pub reads_where : {A : Type 0} (P : Held → Type 0) → P (held a) → (f : Node → A) → ((n : Node) → P (held n) → f (bare (held n)) ≡ f n) → f a ≡ f b
  reads_where P h f p = sym (p a h) ∙ ap (λ (s : Seen). f (bare s.held)) e ∙ p b (subst P alike_same h)

  pub changes_alike : (f : Node → Node) → Changes f → Alike (f a) (f b)
  changes_alike f p = from_seen (on f) (λ n. seen (f n)) p
