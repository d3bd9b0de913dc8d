-- Which changes keep a sound state sound.
use Rattle.std.specs.Prelude.{None, Option, Some}
use mathlib.Core.Path.{◌≡◌, refl, sym, ap, ◌∙◌}
use mathlib.Core.Bool.{Bool, true, false, cond}
use mathlib.Core.Logic.{◌⊎◌, inl, inr}
use mathlib.Core.List.{List}
use Prim.Native.Nat.{ℕ, ◌+◌, ◌≤◌, ◌<◌}
use native.Mathlib.Nat.{le_trans}
use native.Mathlib.Decide.{ℕ_discrete}
use native.Mathlib.Omega.{arith}
use lib.ListN.{get_or, set, length, length-set}
use lib.Seq.{get_or-set_same, get_or-set_other}
use lib.Dec.{leb, ltb}
use borrow.Author.Tests.{leb-true, le-leb, lt-ltb, eq-eqb, ltb-true}
use Rattle.tables.specs.Sizes.{mark_room, top, time_end}
use Rattle.tables.proofs.Checks.{part}
use Rattle.tables.proofs.Below.{gather}
use Rattle.state.specs.Node.{blank, record_at, master_at, is_master, listed, owns, voting_master, voting_masters}
use Rattle.state.specs.Changes.{with_role, with_config, with_ping, with_flag, with_vote, with_record, with_records, with_marks, with_current, with_voted, with_clock, with_election, arrived}
use Rattle.state.specs.declared.Node.{Node}
use Rattle.state.specs.declared.Record.{Record}
use Rattle.state.specs.declared.Mark.{Mark}
use Rattle.state.specs.declared.Role.{Role}
use Rattle.state.specs.declared.Flag.{Flag}
use Rattle.state.specs.declared.Flag.TheVariants.{Clear, Pfail, Fail}
use Rattle.state.specs.declared.Election.{Election}
use Rattle.soundness.specs.Sound.{sound, arrays_whole, bounds_kept, ids_ascend, follow_sound, moment_sound, flag_sound, record_checks, record_sound, record_sound_at, records_sound, election_sound, election_checks, marks_ascend, marks_sound, own_clear}
use Rattle.soundness.proofs.Facts.{sound_part, bound_part, all_ids, all_records, few_nodes, clock_bounded, current_bounded, me_listed, record_is_sound, election_is_sound, master_closed, heard_fit}
use Rattle.nodesets.specs.NodeSets.{none, has, added, below}
use Rattle.nodesets.specs.declared.NodeSet.{NodeSet}
use Rattle.state.specs.Node.{an_election}
use Rattle.nodesets.proofs.Members.{gathered_below, none_within, within_added}

-- all the parts together
pub rebuilt : (n : Node) → arrays_whole n ≡ true → bounds_kept n ≡ true → ids_ascend n ≡ true → listed n n.me ≡ true → records_sound n ≡ true → leb n.voted n.current ≡ true → election_sound n n.election ≡ true → marks_ascend n ≡ true → marks_sound n ≡ true → own_clear (record_at n n.me) ≡ true → sound n ≡ true
unfolding sound
rebuilt n a b c d e f g i j k = rw (a, b, c, d, e, f, g, i, j) k

-- an election is as sound in another node of the same size, clock, currentEpoch and own role
pub election_like : (a b : Node) → a.size ≡ b.size → a.clock ≡ b.clock → a.current ≡ b.current → (record_at a a.me).role ≡ (record_at b b.me).role → (x : Option Election) → election_sound a x ≡ election_sound b x
unfolding election_sound
election_like a b s c d r None = refl
election_like a b s c d r (Some e) = rw (s, c, d, r)

-- ---- an open election

-- one of a replica, with a set within the roster and none heard
pub opened_election : (n : Node) (epoch opened : ℕ) (voters : NodeSet) → is_master (record_at n n.me).role ≡ false → epoch ≤ n.current → opened ≤ n.clock → below voters n.size ≡ true → election_sound n (an_election epoch opened voters none) ≡ true
unfolding election_sound
opened_election n epoch opened voters m e t v = rw (m, le-leb epoch n.current e, le-leb opened n.clock t, v) (none_within voters)

-- the voting masters lie within the roster
voting_below : (n : Node) (slots : List ℕ) → below (voting_masters n slots) n.size ≡ true
voting_below n slots = gathered_below (voting_master n slots) n.size (λ k e. ltb-true k n.size (first (listed n k) (is_master (record_at n k).role) (first (master_at n k) (owns slots k) e)))
  where
    first : (t u : Bool) → cond t u false ≡ true → t ≡ true
    first true u e = refl
    first false u e = e

-- one ack more of a voter of the set
pub heard_election : (n : Node) (epoch opened : ℕ) (voters heard : NodeSet) (v : ℕ) → election_sound n (an_election epoch opened voters heard) ≡ true → has voters v ≡ true → election_sound n (an_election epoch opened voters (added heard v)) ≡ true
unfolding election_sound
heard_election n epoch opened voters heard v s e =
    let q = election_checks n epoch opened voters heard in let p : (i : ℕ) → get_or q i true ≡ true = λ i. part i q s in
    rw (p 0, p 1, p 2, p 3) (within_added heard voters v (heard_fit n epoch opened voters heard s) (p 4) e)

-- ---- one thing of a record changed

module _ (size clock current k : ℕ) (r : Record) (h : record_sound size clock current k r ≡ true) where
  piece : (i : ℕ) → get_or (record_checks size clock current k r) i true ≡ true
  piece i = part i (record_checks size clock current k r) h

  pub role_kept : (x : Role) → follow_sound size k x ≡ true → record_sound size clock current k (with_role x r) ≡ true
  role_kept x e = rw (e, piece 1, piece 2, piece 3) (piece 4)

  pub config_kept : (x : ℕ) → x ≤ current → record_sound size clock current k (with_config x r) ≡ true
  config_kept x l = rw (piece 0, piece 1, piece 2, piece 3) (le-leb x current l)

  pub ping_kept : (x : Option ℕ) → moment_sound clock x ≡ true → record_sound size clock current k (with_ping x r) ≡ true
  ping_kept x e = rw (piece 0, e, piece 2, piece 3) (piece 4)

  pub flag_kept : (x : Flag) → flag_sound clock x ≡ true → record_sound size clock current k (with_flag x r) ≡ true
  flag_kept x e = rw (piece 0, piece 1, e, piece 3) (piece 4)

  pub vote_kept : (x : Option ℕ) → moment_sound clock x ≡ true → record_sound size clock current k (with_vote x r) ≡ true
  vote_kept x e = rw (piece 0, piece 1, piece 2, e) (piece 4)

-- ---- the clock goes on and currentEpoch rises

later : (x c t : ℕ) → c ≤ t → leb x c ≡ true → leb x t ≡ true
later x c t l h = le-leb x t (le_trans (leb-true x c h) l)

moment_later : (c t : ℕ) → c ≤ t → (x : Option ℕ) → moment_sound c x ≡ true → moment_sound t x ≡ true
moment_later c t l None s = refl
moment_later c t l (Some x) s = later x c t l s

flag_later : (c t : ℕ) → c ≤ t → (x : Flag) → flag_sound c x ≡ true → flag_sound t x ≡ true
flag_later c t l Clear s = refl
flag_later c t l Pfail s = refl
flag_later c t l (Fail x) s = later x c t l s

pub record_later : (size c t a e k : ℕ) (r : Record) → c ≤ t → a ≤ e → record_sound size c a k r ≡ true → record_sound size t e k r ≡ true
record_later size c t a e k r l g s = let p = piece size c a k r s in rw (p 0, moment_later c t l r.ping (p 1), flag_later c t l r.flag (p 2), moment_later c t l r.vote (p 3)) (later r.config a e g (p 4))

-- ---- the election

pub election_sound_lem : (n : Node) → sound n ≡ true → (x : Option Election) → election_sound n x ≡ true → sound (with_election x n) ≡ true
unfolding with_election arrays_whole bounds_kept ids_ascend records_sound marks_ascend marks_sound
election_sound_lem n h x s =
    let p = sound_part n h in
    rebuilt (with_election x n) (p 0) (p 1) (p 2) (p 3) (p 4) (p 5) (sym (election_like n (with_election x n) refl refl refl refl x) ∙ s) (p 7) (p 8) (p 9)

module _ (n : Node) (h : sound n ≡ true) where
  module _ (t e : ℕ) (l : n.clock ≤ t) (g : n.current ≤ e) where
    abbrev next : Node
    next = with_clock t (with_current e n)

    bounds_later : t < time_end → e ≤ top → bounds_kept next ≡ true
    unfolding bounds_kept with_clock with_current
    bounds_later a b = let p = bound_part n h in rw (p 0, p 1, lt-ltb t time_end a, le-leb e top b, p 4, p 5) (p 6)

    records_later : records_sound next ≡ true
    unfolding records_sound with_clock with_current
    records_later = gather (record_sound_at next) n.size (λ k i. record_later n.size n.clock t n.current e k (record_at n k) l g (record_is_sound n h k i))

    election_later : (x : Option Election) → election_sound n x ≡ true → election_sound next x ≡ true
    unfolding election_sound with_clock with_current
    election_later None s = refl
    election_later (Some x) s =
        let q = election_checks n x.epoch x.opened x.voters x.heard in let p : (i : ℕ) → get_or q i true ≡ true = λ i. part i q s in
        rw (p 0, later x.epoch n.current e g (p 1), later x.opened n.clock t l (p 2), p 3) (p 4)

    pub later_sound : t < time_end → e ≤ top → sound (with_clock t (with_current e n)) ≡ true
    unfolding with_clock with_current arrays_whole ids_ascend marks_ascend marks_sound
    later_sound a b =
        let p = sound_part n h in
        rebuilt next (p 0) (bounds_later a b) (p 2) (p 3) records_later (later n.voted n.current e g (p 5)) (election_later n.election (p 6)) (p 7) (p 8) (p 9)

  pub clock_sound : (t : ℕ) → n.clock ≤ t → t < time_end → sound (with_clock t n) ≡ true
  unfolding with_clock with_current
  clock_sound t l a = later_sound t n.current l (omega arith) a (current_bounded n h)

  pub current_sound : (e : ℕ) → n.current ≤ e → e ≤ top → sound (with_current e n) ≡ true
  unfolding with_clock with_current
  current_sound e g b = later_sound n.clock e (omega arith) g (clock_bounded n h) b

  -- past the refusals
  pub arrived_sound : (t e : ℕ) → n.clock ≤ t → t < time_end → e ≤ top → sound (arrived t e n) ≡ true
  arrived_sound t e l a b = by (ltb n.current e) refl
    where
      by : (x : Bool) → x ≡ ltb n.current e → sound (with_clock t (with_current (cond x e n.current) n)) ≡ true
      by true q = later_sound t e l (let u = ltb-true n.current e (sym q) in omega arith) a b
      by false q = later_sound t n.current l (omega arith) a (current_bounded n h)

  -- ---- lastVoteEpoch

  pub voted_sound : (e : ℕ) → e ≤ n.current → sound (with_voted e n) ≡ true
  unfolding with_voted arrays_whole bounds_kept ids_ascend records_sound marks_ascend marks_sound
  voted_sound e l =
      let p = sound_part n h in
      rebuilt (with_voted e n) (p 0) (p 1) (p 2) (p 3) (p 4) (le-leb e n.current l) (sym (election_like n (with_voted e n) refl refl refl refl n.election) ∙ p 6) (p 7) (p 8) (p 9)

  -- ---- the election

  pub closed_sound : sound (with_election None n) ≡ true
  unfolding election_sound
  closed_sound = election_sound_lem n h None refl

  -- a replica's opening: currentEpoch goes up by 1 and is its epoch, its set is the voting masters, none heard
  pub opening_sound : (slots : List ℕ) → is_master (record_at n n.me).role ≡ false → n.current < top → sound (with_election (an_election (n.current + 1) n.clock (voting_masters n slots) none) (with_current (n.current + 1) n)) ≡ true
  unfolding with_current
  opening_sound slots m l =
      let e = n.current + 1 in
      let voters = voting_masters n slots in
      election_sound_lem (with_current e n) (current_sound e (omega arith) (omega arith)) (an_election e n.clock voters none)
      (opened_election (with_current e n) e n.clock voters m (omega arith) (omega arith) (voting_below n slots))

  -- ---- marks

  pub marks_sound_lem : (xs : List Mark) (k : ℕ) → length xs ≡ mark_room → k ≤ mark_room → marks_ascend (with_marks xs k n) ≡ true → marks_sound (with_marks xs k n) ≡ true → sound (with_marks xs k n) ≡ true
  unfolding with_marks arrays_whole bounds_kept ids_ascend records_sound
  marks_sound_lem xs k long l a s =
      let p = sound_part n h in let b = bound_part n h in
      rebuilt (with_marks xs k n) (rw (eq-eqb _ _ (all_ids n h), eq-eqb _ _ (all_records n h)) (eq-eqb _ _ long)) (rw (b 0, b 1, b 2, b 3, b 4, b 5) (le-leb k mark_room l)) (p 2) (p 3) (p 4) (p 5) (sym (election_like n (with_marks xs k n) refl refl refl refl n.election) ∙ p 6) a s (p 9)

  -- ---- one record

  module _ (k : ℕ) (r : Record) (f : k < n.size → record_sound n.size n.clock n.current k r ≡ true) where
    abbrev then : Node
    then = with_record k r n

    reads : (j : ℕ) → j < n.size → record_sound n.size n.clock n.current j (get_or (set n.records k r) j blank) ≡ true
    reads j i = by (ℕ_discrete j k)
      where
        by : Dec (j ≡ k) → record_sound n.size n.clock n.current j (get_or (set n.records k r) j blank) ≡ true
        by (yes e) = let long : k < length n.records = omega (arith, all_records n h, few_nodes n h) in rw (e, get_or-set_same n.records k r blank long) (f (omega arith))
        by (no d) = rw (get_or-set_other n.records k j r blank d) (record_is_sound n h j i)

    records_kept : records_sound then ≡ true
    unfolding records_sound with_records
    records_kept = gather (record_sound_at then) n.size reads

    whole_kept : arrays_whole then ≡ true
    unfolding arrays_whole with_records
    whole_kept = rw (length-set n.records k r) (sound_part n h 0)

    -- what is recorded of this node: r, or as it was
    own_changed : k ≡ n.me → record_at then n.me ≡ r
    unfolding with_records
    own_changed e = let long : n.me < length n.records = omega (arith, all_records n h, few_nodes n h, me_listed n h) in rw e (get_or-set_same n.records n.me r blank long)

    own_kept : (k ≡ n.me → ⊥) → record_at then n.me ≡ record_at n n.me
    unfolding with_records
    own_kept d = get_or-set_other n.records k n.me r blank (λ e. d (sym e))

    joined : election_sound then n.election ≡ true → own_clear (record_at then n.me) ≡ true → sound then ≡ true
    unfolding with_records bounds_kept ids_ascend marks_ascend marks_sound
    joined s o = let p = sound_part n h in rebuilt then whole_kept (p 1) (p 2) (p 3) records_kept (p 5) s (p 7) (p 8) o

    -- another node's
    pub other_sound : (k ≡ n.me → ⊥) → sound (with_record k r n) ≡ true
    unfolding with_records
    other_sound d =
        let e = own_kept d in
        joined (sym (election_like n then refl refl refl (ap (λ (x : Record). x.role) (sym e)) n.election) ∙ election_is_sound n h) (ap own_clear e ∙ sound_part n h 9)

    election_kept : is_master (record_at then n.me).role ≡ false → (x : Option Election) → election_sound n x ≡ true → election_sound then x ≡ true
    unfolding election_sound with_records
    election_kept m None s = refl
    election_kept m (Some e) s =
        let q = election_checks n e.epoch e.opened e.voters e.heard in let p : (i : ℕ) → get_or q i true ≡ true = λ i. part i q s in
        rw (m, p 1, p 2, p 3) (p 4)

    -- any: this node's own has no flag and no pending ping, and is a replica's while an election is open
    pub record_sound_lem : (k ≡ n.me → (own_clear r ≡ true) × ((n.election ≡ None) ⊎ (is_master r.role ≡ false))) → sound (with_record k r n) ≡ true
    unfolding election_sound
    record_sound_lem c = by (ℕ_discrete k n.me)
      where
        fits : k ≡ n.me → (n.election ≡ None) ⊎ (is_master r.role ≡ false) → election_sound then n.election ≡ true
        fits e (inl q) = rw q
        fits e (inr m) = election_kept (ap (λ (x : Record). is_master x.role) (own_changed e) ∙ m) n.election (election_is_sound n h)

        by : Dec (k ≡ n.me) → sound (with_record k r n) ≡ true
        by (no d) = other_sound d
        by (yes e) = joined (fits e (c e).1) (ap own_clear (own_changed e) ∙ (c e).0)

    -- one that says master, or replica, as it did
    pub same_role_sound : is_master r.role ≡ is_master (record_at n k).role → (k ≡ n.me → own_clear r ≡ true) → sound (with_record k r n) ≡ true
    same_role_sound m o = record_sound_lem (λ e. (o e, by e (is_master r.role) refl))
      where
        by : k ≡ n.me → (t : Bool) → t ≡ is_master r.role → (n.election ≡ None) ⊎ (is_master r.role ≡ false)
        by e true q = inl (master_closed n h (ap (λ (j : ℕ). is_master (record_at n j).role) (sym e) ∙ sym m ∙ sym q))
        by e false q = inr (sym q)

-- a record changed and the election closed at once: this node's own may become a master's
pub closing_sound : (n : Node) → sound n ≡ true → (k : ℕ) (r : Record) → (k < n.size → record_sound n.size n.clock n.current k r ≡ true) → (k ≡ n.me → own_clear r ≡ true) → sound (with_election None (with_record k r n)) ≡ true
unfolding with_election with_records
closing_sound n h k r f o = record_sound_lem (with_election None n) (closed_sound n h) k r f (λ e. (o e, inl refl))
