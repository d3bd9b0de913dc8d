-- A tick settles each node's flag by itself, whatever the order of the nodes, and what its loops come to.
use mathlib.Core.Path.{◌≡◌, refl, sym, ap, ap₂, ◌∙◌}
use mathlib.Core.Bool.{Bool, true, false, not, ◌&&◌}
use mathlib.Core.List.{List}
use mathlib.Core.Logic.{⊎_elim}
use Prim.Native.Nat.{ℕ, zero, suc, ◌+◌, min, ◌≤◌, ◌<◌}
use native.Mathlib.Nat.{le_of_suc-le-suc, not-suc-le-zero, eq-or-lt_of_le}
use native.Mathlib.Decide.{ℕ_discrete}
use native.Mathlib.Omega.{arith}
use lib.ListN.{length}
use lib.Seq.{get_or-set_same, get_or-set_other}
use borrow.Author.Tests.{lt-ltb}
use Rattle.tables.specs.Sizes.{node_room}
use Rattle.tables.specs.Below.{in_turn}
use Rattle.tables.proofs.Checks.{never}
use Rattle.tables.proofs.Below.{in_turn_keeps}
use Rattle.nodesets.specs.declared.NodeSet.{NodeSet}
use Rattle.state.specs.Node.{blank, record_at, master_at, is_master, is_pfail, voting_masters}
use Rattle.state.specs.Changes.{with_flag, with_record, with_records}
use Rattle.state.specs.declared.Node.{Node}
use Rattle.state.specs.declared.Record.{Record}
use Rattle.failure.specs.Failure.{flag_if_signalled, looked_at}
use Rattle.failure.specs.Keeps.{FlagsOnly, OthersKept}
use Rattle.failure.proofs.Keeps.{flags_kept, size_kept, role_kept, signalled_like, looked_flags, looked_others, looked_out, looked_alone, looked_flag}
use Rattle.probes.specs.Probes.{unanswered, flag_if_unanswered, suspected, all_suspected, all_looked_at, ticked, tick_flag}
use Rattle.probes.proofs.Keeps.{suspected_flags, suspected_others, suspected_out, turns, all_suspected_lem}

-- ---- changes in turn, each of its own number's flag

module _ (f : ℕ → Node → Node) (flags : (k : ℕ) (x : Node) → FlagsOnly x (f k x)) (others : (k : ℕ) (x : Node) → OthersKept k x (f k x)) (out : (k : ℕ) (x : Node) → length x.records ≤ k → f k x ≡ x) (n : Node) where
  not_yet : (m k : ℕ) → m ≤ k → record_at (in_turn f m n) k ≡ record_at n k
  unfolding in_turn
  not_yet zero k l = refl
  not_yet (suc m) k l = others m (in_turn f m n) k (λ e. omega arith) ∙ not_yet m k (omega arith)

  done : (m k : ℕ) → k < m → record_at (in_turn f m n) k ≡ record_at (f k (in_turn f k n)) k
  unfolding in_turn
  done zero k l = absurd (not-suc-le-zero l)
  done (suc m) k l =
      ⊎_elim
      (λ (q : k ≡ m). rw q)
      (λ (q : k < m). others m (in_turn f m n) k (λ e. omega arith) ∙ done m k q)
      (eq-or-lt_of_le (le_of_suc-le-suc l))

  -- numbers past the records change nothing
  past : (m e : ℕ) → e ≤ m → ((k : ℕ) → e ≤ k → k < m → length n.records ≤ k) → in_turn f m n ≡ in_turn f e n
  unfolding in_turn
  past zero e l g = let z : e ≡ 0 = omega arith in rw z
  past (suc m) e l g = ⊎_elim (λ (q : e ≡ suc m). rw q) (λ (q : e < suc m). out m (in_turn f m n) (beyond q) ∙ past m e (omega arith) (λ k a b. g k a (omega arith))) (eq-or-lt_of_le l)
    where
      beyond : e < suc m → length (in_turn f m n).records ≤ m
      beyond q = omega (arith, (turns f flags n m).room, g m (omega arith) (omega arith))

  -- so as many as the roster has records
  whole : (e : ℕ) → length n.records ≡ node_room → e ≡ min n.size node_room → in_turn f n.size n ≡ in_turn f e n
  whole e long q = past n.size e (omega arith) (λ k a b. omega arith)

-- ---- one node

unanswered_like : (n x : Node) (k : ℕ) (r : Record) → FlagsOnly n x → flag_if_unanswered x k r ≡ flag_if_unanswered n k r
unfolding with_records flag_if_unanswered unanswered
unanswered_like n x k r h = ap (λ (y : Node). flag_if_unanswered y k r) h.rest

suspected_flag : (x : Node) (k : ℕ) → k < length x.records → (record_at (suspected k x) k).flag ≡ flag_if_unanswered x k (record_at x k)
unfolding suspected with_records
suspected_flag x k l = ap (λ (r : Record). r.flag) (get_or-set_same x.records k (with_flag (flag_if_unanswered x k (record_at x k)) (record_at x k)) blank l)

-- ---- all of them

module _ (n : Node) where
  after_suspects : (k : ℕ) → k < n.size → k < length n.records → (record_at (all_suspected n) k).flag ≡ flag_if_unanswered n k (record_at n k)
  unfolding all_suspected
  after_suspects k l long =
      let x = in_turn suspected k n in
      let h = turns suspected suspected_flags n k in
      let e : record_at x k ≡ record_at n k = not_yet suspected suspected_flags suspected_others suspected_out n k k (omega arith) in
      ap (λ (r : Record). r.flag) (done suspected suspected_flags suspected_others suspected_out n n.size k l)
      ∙ suspected_flag x k (omega (arith, h.room))
      ∙ ap (flag_if_unanswered x k) e
      ∙ unanswered_like n x k (record_at n k) h

  module _ (voters : NodeSet) (reports : List ℕ) where
    after_looks : (k : ℕ) → k < n.size → k < length n.records → (record_at (all_looked_at voters reports n) k).flag ≡ flag_if_signalled n voters reports k (record_at n k).flag
    unfolding all_looked_at
    after_looks k l long =
        let f = looked_at voters reports in
        let x = in_turn f k n in
        let h = turns f (looked_flags voters reports) n k in
        let e : record_at x k ≡ record_at n k = not_yet f (looked_flags voters reports) (looked_others voters reports) (looked_out voters reports) n k k (omega arith) in
        ap (λ (r : Record). r.flag) (done f (looked_flags voters reports) (looked_others voters reports) (looked_out voters reports) n n.size k l)
        ∙ looked_flag voters reports k x (omega (arith, h.room))
        ∙ ap (λ (r : Record). flag_if_signalled x voters reports k r.flag) e
        ∙ signalled_like n x h voters reports k (record_at n k).flag

-- a tick leaves each node of the roster the flag that the rules give it by itself
pub tick_each : (n : Node) (slots reports : List ℕ) (k : ℕ) → k < n.size → k < length n.records → (record_at (ticked n slots reports) k).flag ≡ tick_flag n slots reports k
unfolding ticked
tick_each n slots reports k l long =
    let m = all_suspected n in
    let h = all_suspected_lem n in
    let voters = voting_masters n slots in
    after_looks m voters reports k (omega (arith, size_kept n m h)) (omega (arith, h.room))
    ∙ ap (flag_if_signalled m voters reports k) (after_suspects n k l long)
    ∙ signalled_like n m h voters reports k (flag_if_unanswered n k (record_at n k))

-- ---- the two loops

-- roles are as they were at the start of the first loop
pub master_then : (n x : Node) (k : ℕ) → k < n.size → x ≡ in_turn suspected k n → master_at n k ≡ is_master (record_at x k).role
master_then n x k l e =
    let y = in_turn suspected k n in
    let h : (record_at x k).role ≡ (record_at n k).role = rw e (role_kept n y (flags_kept n y (turns suspected suspected_flags n k)) k) in
    rw (lt-ltb k n.size l, h)

pub both_loops : (n m : Node) (slots reports : List ℕ) (voters : NodeSet) (e : ℕ) → length n.records ≡ node_room → e ≡ min n.size node_room → m ≡ in_turn suspected e n → voters ≡ voting_masters n slots → in_turn (looked_at voters reports) e m ≡ ticked n slots reports
unfolding ticked all_suspected all_looked_at
both_loops n m slots reports voters e long q h g =
    let a : m ≡ all_suspected n = h ∙ sym (whole suspected suspected_flags suspected_others suspected_out n e long q) in
    let k = all_suspected_lem n in
    let x = all_suspected n in
    let w = voting_masters n slots in
    let f = looked_at w reports in
    ap₂ (λ (s : NodeSet) (y : Node). in_turn (looked_at s reports) e y) g a
    ∙ sym (whole f (looked_flags w reports) (looked_others w reports) (looked_out w reports) x e (omega (arith, long, k.room)) (omega (arith, q, size_kept n x k)))

-- ---- nobody is PFAIL

abbrev pub NonePfail : ℕ → Node → Type 0
NonePfail e m = (k : ℕ) → k < e → is_pfail (record_at m k).flag ≡ false

-- the test of the loop, by its parts
pub still : (quiet pfail : Bool) → (quiet && not pfail) ≡ true → (pfail ≡ false) × (quiet ≡ true)
still true false e = (refl, refl)
still true true e = never (sym e)
still false pfail e = never (sym e)

-- there are as many records as at the start
pub room_kept : (n x : Node) (k : ℕ) → x ≡ in_turn suspected k n → length x.records ≡ length n.records
room_kept n x k e = rw e (turns suspected suspected_flags n k).room

-- the next one is not, and no other record changed
pub none_more : (n : Node) (e : ℕ) (r : Record) → e < length n.records → NonePfail e n → is_pfail r.flag ≡ false → NonePfail (e + 1) (with_record e r n)
unfolding with_records
none_more n e r long h f k l = by (ℕ_discrete k e)
  where
    by : Dec (k ≡ e) → is_pfail (record_at (with_record e r n) k).flag ≡ false
    by (yes d) = rw (d, get_or-set_same n.records e r blank long) f
    by (no d) = rw (get_or-set_other n.records e k r blank d) (h k (omega arith))

-- then the looks change nothing
pub none_looked : (voters : NodeSet) (reports : List ℕ) (e : ℕ) (m : Node) → NonePfail e m → in_turn (looked_at voters reports) e m ≡ m
none_looked voters reports e m h = in_turn_keeps (λ x. x ≡ m) (looked_at voters reports) e m (λ k x l q. ap (looked_at voters reports k) q ∙ looked_alone voters reports k m (h k l)) refl
