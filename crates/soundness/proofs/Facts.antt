-- What a sound state has, one fact at a time, so that no caller opens the definition.
use Rattle.std.specs.Prelude.{None, Option, Some}
use mathlib.Core.Path.{◌≡◌, refl, sym, ap, ◌∙◌}
use mathlib.Core.Bool.{true, false, not}
use mathlib.Core.List.{[], ◌∷◌}
use Prim.Native.Nat.{ℕ, ◌+◌, ◌-◌, ◌≤◌, ◌<◌}
use native.Mathlib.Omega.{arith}
use lib.ListN.{get_or, length}
use lib.Dec.{eqb, ltb}
use borrow.Author.Tests.{leb-true, ltb-true, eqb-true, eqb-false, not-true}
use Rattle.tables.specs.Sizes.{node_room, mark_room, top, time_end, least_timeout, most_timeout}
use Rattle.tables.proofs.Checks.{part}
use Rattle.tables.proofs.Below.{each}
use Rattle.state.specs.Node.{record_at, mark_at, id_at, is_master}
use Rattle.state.specs.declared.Node.{Node}
use Rattle.state.specs.declared.Role.TheVariants.{Replica}
use Rattle.state.specs.declared.Election.{Election}
use Rattle.soundness.specs.Sound.{sound, sound_checks, arrays_whole, bounds_kept, bound_checks, ids_ascend, id_in_order, before, follow_sound, moment_sound, flag_sound, record_checks, record_sound, record_sound_at, records_sound, election_sound, election_checks, marks_ascend, slot_in_order, marks_sound, mark_sound, mark_sound_at, own_clear}
use Rattle.soundness.specs.SoundStates.{OpenElection}
use Rattle.nodesets.specs.NodeSets.{within, below}
use Rattle.nodesets.specs.Members.{Fits}
use Rattle.nodesets.specs.declared.NodeSet.{NodeSet}
use Rattle.state.specs.Node.{an_election}
use Rattle.nodesets.proofs.Members.{part_in, below_in, fits_below, part_fits}

module _ (n : Node) (h : sound n ≡ true) where
  pub sound_part : (k : ℕ) → get_or (sound_checks n) k true ≡ true
  unfolding sound
  sound_part k = part k (sound_checks n) h

  array_part : (k : ℕ) → get_or (eqb (length n.ids) node_room ∷ eqb (length n.records) node_room ∷ eqb (length n.marks) mark_room ∷ []) k true ≡ true
  unfolding arrays_whole
  array_part k = part k (eqb (length n.ids) node_room ∷ eqb (length n.records) node_room ∷ eqb (length n.marks) mark_room ∷ []) (sound_part 0)

  pub bound_part : (k : ℕ) → get_or (bound_checks n) k true ≡ true
  unfolding bounds_kept
  bound_part k = part k (bound_checks n) (sound_part 1)

  -- ---- the arrays

  pub all_ids : length n.ids ≡ node_room
  all_ids = eqb-true _ _ (array_part 0)

  pub all_records : length n.records ≡ node_room
  all_records = eqb-true _ _ (array_part 1)

  pub all_marks : length n.marks ≡ mark_room
  all_marks = eqb-true _ _ (array_part 2)

  -- ---- the bounds and the counts

  pub least_timeout_lem : least_timeout ≤ n.timeout
  least_timeout_lem = leb-true least_timeout n.timeout (bound_part 0)

  pub most_timeout_lem : n.timeout ≤ most_timeout
  most_timeout_lem = leb-true n.timeout most_timeout (bound_part 1)

  pub clock_bounded : n.clock < time_end
  clock_bounded = ltb-true n.clock time_end (bound_part 2)

  pub current_bounded : n.current ≤ top
  current_bounded = leb-true n.current top (bound_part 3)

  pub some_nodes : 1 ≤ n.size
  some_nodes = leb-true 1 n.size (bound_part 4)

  pub few_nodes : n.size ≤ node_room
  few_nodes = leb-true n.size node_room (bound_part 5)

  pub few_marks : n.marked ≤ mark_room
  few_marks = leb-true n.marked mark_room (bound_part 6)

  -- ---- ids, this node's number and lastVoteEpoch

  pub ids_ordered : (k : ℕ) → k < n.size - 1 → before (id_at n k).bytes (id_at n (k + 1)).bytes ≡ true
  unfolding ids_ascend
  ids_ordered k l = each (id_in_order n) (n.size - 1) k (sound_part 2) l

  pub me_listed : n.me < n.size
  me_listed = ltb-true n.me n.size (sound_part 3)

  pub voted_behind : n.voted ≤ n.current
  voted_behind = leb-true n.voted n.current (sound_part 5)

  -- ---- the record of a number of the roster

  pub record_is_sound : (k : ℕ) → k < n.size → record_sound n.size n.clock n.current k (record_at n k) ≡ true
  unfolding records_sound
  record_is_sound k l = each (record_sound_at n) n.size k (sound_part 4) l

  record_part : (k : ℕ) → k < n.size → (i : ℕ) → get_or (record_checks n.size n.clock n.current k (record_at n k)) i true ≡ true
  record_part k l i = part i (record_checks n.size n.clock n.current k (record_at n k)) (record_is_sound k l)

  pub follow_is_sound : (k : ℕ) → k < n.size → follow_sound n.size k (record_at n k).role ≡ true
  follow_is_sound k l = record_part k l 0

  pub ping_is_sound : (k : ℕ) → k < n.size → moment_sound n.clock (record_at n k).ping ≡ true
  ping_is_sound k l = record_part k l 1

  pub flag_is_sound : (k : ℕ) → k < n.size → flag_sound n.clock (record_at n k).flag ≡ true
  flag_is_sound k l = record_part k l 2

  pub vote_is_sound : (k : ℕ) → k < n.size → moment_sound n.clock (record_at n k).vote ≡ true
  vote_is_sound k l = record_part k l 3

  pub config_behind : (k : ℕ) → k < n.size → (record_at n k).config ≤ n.current
  config_behind k l = leb-true (record_at n k).config n.current (record_part k l 4)

  -- the node that a node of the roster follows is in the roster, and is another
  pub followed_listed : (k m : ℕ) → k < n.size → (record_at n k).role ≡ Replica m → (m < n.size) × (m ≡ k → ⊥)
  followed_listed k m l e =
      let f : follow_sound n.size k (Replica m) ≡ true = ap (follow_sound n.size k) (sym e) ∙ follow_is_sound k l in
      let p : (i : ℕ) → get_or (ltb m n.size ∷ not (eqb m k) ∷ []) i true ≡ true = λ i. part i (ltb m n.size ∷ not (eqb m k) ∷ []) f in
      (ltb-true m n.size (p 0), eqb-false m k (not-true (eqb m k) (p 1)))

  -- ---- this node itself

  pub own_is_clear : own_clear (record_at n n.me) ≡ true
  own_is_clear = sound_part 9

  -- ---- marks

  pub marks_ordered : (k : ℕ) → k < n.marked - 1 → (mark_at n k).slot < (mark_at n (k + 1)).slot
  unfolding marks_ascend
  marks_ordered k l = ltb-true (mark_at n k).slot (mark_at n (k + 1)).slot (each (slot_in_order n) (n.marked - 1) k (sound_part 7) l)

  pub mark_is_sound : (k : ℕ) → k < n.marked → mark_sound n.size n.me (mark_at n k) ≡ true
  unfolding marks_sound
  mark_is_sound k l = each (mark_sound_at n) n.marked k (sound_part 8) l

  -- ---- the election

  pub election_is_sound : election_sound n n.election ≡ true
  election_is_sound = sound_part 6

  -- a master has none open
  pub master_closed : is_master (record_at n n.me).role ≡ true → n.election ≡ None
  unfolding election_sound
  master_closed m = by n.election election_is_sound
    where
      by : (x : Option Election) → election_sound n x ≡ true → x ≡ None
      by None s = refl
      by (Some e) s =
          let f : not (is_master (record_at n n.me).role) ≡ true = part 0 (election_checks n e.epoch e.opened e.voters e.heard) s in
          let g : true ≡ false = sym m ∙ not-true _ f in
          let z : ◌≡◌ {A = ℕ} 0 1 = cc in absurd (omega arith)

-- what an open one has
module _ (n : Node) (epoch opened : ℕ) (voters heard : NodeSet) (h : election_sound n (an_election epoch opened voters heard) ≡ true) where
  open_part : (k : ℕ) → get_or (election_checks n epoch opened voters heard) k true ≡ true
  unfolding election_sound
  open_part k = part k (election_checks n epoch opened voters heard) h

  pub open_replica : is_master (record_at n n.me).role ≡ false
  open_replica = not-true _ (open_part 0)

  pub open_epoch : epoch ≤ n.current
  open_epoch = leb-true epoch n.current (open_part 1)

  pub open_since : opened ≤ n.clock
  open_since = leb-true opened n.clock (open_part 2)

  pub open_voters : below voters n.size ≡ true
  open_voters = open_part 3

  pub open_heard : within heard voters ≡ true
  open_heard = open_part 4

  -- every value of the program has sets whose words fit; of a sound state it follows
  pub voters_fit : Fits voters
  voters_fit = fits_below voters n.size open_voters

  pub heard_fit : Fits heard
  heard_fit = part_fits heard voters open_heard voters_fit

-- number by number
pub open_election : (n : Node) → OpenElection n
open_election n h epoch opened voters heard e =
    let s : election_sound n (an_election epoch opened voters heard) ≡ true = ap (election_sound n) (sym e) ∙ election_is_sound n h in
    record {
      listed = below_in voters n.size (open_voters n epoch opened voters heard s);
      heard_within = part_in heard voters (open_heard n epoch opened voters heard s);
    }
