-- A heartbeat, by its sender's role.
use mathlib.Core.Path.{◌≡◌, refl, sym, ap, ◌∙◌}
use mathlib.Core.Logic.{◌⊎◌, inl, inr}
use mathlib.Core.Bool.{Bool, true, false, cond}
use mathlib.Core.List.{List}
use Prim.Native.Nat.{ℕ, ◌+◌, ◌≤◌, ◌<◌}
use native.Mathlib.Nat.{le_refl}
use native.Mathlib.Decide.{ℕ_discrete}
use native.Mathlib.Omega.{arith}
use lib.ListN.{length, get_or}
use lib.Seq.{get_or-set_other}
use lib.Dec.{ltb}
use borrow.Author.Tests.{ltb-true}
use Rattle.tables.specs.Checks.{all_of}
use Rattle.tables.specs.Sizes.{slot_count}
use Rattle.tables.proofs.Checks.{never, part}
use Rattle.state.specs.Node.{blank, record_at, is_master}
use Rattle.state.specs.Changes.{with_role, with_config, with_records, with_current, risen}
use Rattle.state.specs.declared.Node.{Node}
use Rattle.state.specs.declared.Record.{Record}
use Rattle.state.specs.declared.Role.{Role}
use Rattle.state.specs.declared.Role.TheVariants.{Master, Replica}
use Rattle.soundness.specs.Sound.{sound}
use Rattle.soundness.proofs.Facts.{all_records, few_nodes, me_listed, config_behind}
use Rattle.records.specs.Known.{known_configs}
use Rattle.ownership.specs.Claim.{claimant}
use Rattle.ownership.proofs.Owners.{claim_laws}
use Rattle.heartbeats.specs.Heartbeats.{with_sender, tied, heartbeat}
use Rattle.heartbeats.proofs.Frame.{heartbeat_keeps, others_kept, sender_record, own_record, slot_passes_exactly_when}
use Rattle.promises.proofs.Sounds.{risen_to}
use Rattle.monotone.specs.Runs.{World}
use Rattle.monotone.specs.NeverSlidesBack.{owner, Owned, PassesUp}
use Rattle.monotone.proofs.Onward.{AtZero, ReplicaAtZero, Moves, world, Rising, rising_at, zero_at}

risen_from : (old new : ℕ) → old ≤ risen old new
risen_from old new = by (ltb old new) refl
  where
    by : (b : Bool) → ltb old new ≡ b → old ≤ cond b new old
    by true e = let l = ltb-true old new e in omega arith
    by false e = le_refl old

second : (b r : Bool) → cond b r false ≡ true → r ≡ true
second true r e = e
second false r e = never (sym e)

module _ (n : Node) (slots reports bitmap : List ℕ) (sender config : ℕ) (d : sender ≡ n.me → ⊥) where
  abbrev before : World
  before = world n slots reports

  abbrev after : Role → World
  after role = let x = heartbeat n slots bitmap sender role config in world x.outcome.node x.slots reports

  another : n.me ≡ sender → ⊥
  another e = d (sym e)

  -- ---- a replica's: its role

  pub replica_moves : (m : ℕ) → ReplicaAtZero n → Moves before (after (Replica m))
  unfolding heartbeat with_sender with_records
  replica_moves m h = record {
    at_zero = zero_at n sender (with_role (Replica m) (record_at n sender)) h (λ e. absurd (another e));
    onward = record {
      size = refl;
      epochs = rising_at n sender (with_role (Replica m) (record_at n sender)) (le_refl _);
      owners = λ s l o. inl refl;
    };
  }

  -- ---- a master's

  -- the node as the claims find it, and whether the tie bumps it
  abbrev heard : Node
  heard = with_sender sender Master config n

  abbrev bumps : Bool
  bumps = all_of (tied sender config heard)

  own_heard : record_at heard n.me ≡ record_at n n.me
  unfolding with_sender with_records
  own_heard = get_or-set_other n.records sender n.me _ blank another

  -- a master alone takes a new epoch
  bumps_master : bumps ≡ true → is_master (record_at n n.me).role ≡ true
  unfolding with_sender with_records
  bumps_master e =
      ap (λ (r : Record). is_master r.role) (sym own_heard)
      ∙ second (ltb n.me n.size) (is_master (record_at heard n.me).role) (part 0 (tied sender config heard) e)

  same_size : (after Master).node.size ≡ n.size
  unfolding with_records with_current
  same_size = ap (λ (m : Node). m.size) (heartbeat_keeps n slots bitmap sender config Master)

  same_me : (after Master).node.me ≡ n.me
  unfolding with_records with_current
  same_me = ap (λ (m : Node). m.me) (heartbeat_keeps n slots bitmap sender config Master)

  module _ (h : sound n ≡ true) (i : sender < n.size) where
    has_record : (k : ℕ) → k < n.size → k < length n.records
    has_record k l = omega (arith, l, all_records n h, few_nodes n h)

    sender_is : record_at (after Master).node sender ≡ with_config (risen (record_at n sender).config config) (with_role Master (record_at n sender))
    sender_is = sender_record n slots bitmap sender config d (has_record sender i)

    own_is : record_at (after Master).node n.me ≡ cond bumps (with_config (n.current + 1) (record_at n n.me)) (record_at n n.me)
    own_is = own_record n slots bitmap sender config another (has_record n.me (me_listed n h))

    master_zero : ReplicaAtZero n → ReplicaAtZero (after Master).node
    master_zero z = rw (same_me, own_is) (by bumps refl)
      where
        by : (b : Bool) → bumps ≡ b → AtZero (cond b (with_config (n.current + 1) (record_at n n.me)) (record_at n n.me))
        by true e = λ f. never (sym (bumps_master e) ∙ f)
        by false e = z

    -- the sender's rises to the frame's, this node's to a new one above all known
    master_rising : Rising n (after Master).node
    master_rising k = by (ℕ_discrete k sender) (ℕ_discrete k n.me)
      where
        own : (b : Bool) → (record_at n n.me).config ≤ (cond b (with_config (n.current + 1) (record_at n n.me)) (record_at n n.me)).config
        own true = let l = config_behind n h n.me (me_listed n h) in omega (arith, l)
        own false = le_refl _

        by : Dec (k ≡ sender) → Dec (k ≡ n.me) → (record_at n k).config ≤ (record_at (after Master).node k).config
        by (yes e) f = rw (e, sender_is) (risen_from (record_at n sender).config config)
        by (no e) (yes f) = rw (f, own_is) (own bumps)
        by (no e) (no f) = rw (others_kept n slots bitmap sender config Master k e f) (le_refl _)

    -- the sender has at least the frame's configEpoch
    sender_above : config ≤ (record_at (after Master).node sender).config
    sender_above = rw sender_is (risen_to (record_at n sender).config config)

    own_slot : (s : ℕ) → s < length slots → get_or slots s 0 ≡ sender → get_or (after Master).tables.slots s 0 ≡ get_or slots s 0
    unfolding heartbeat
    own_slot s l e = (claim_laws (claimant (known_configs heard.size heard.records) heard.size sender config) bitmap slots).own s l e ∙ sym e

    master_owners : (s : ℕ) → s < length slots → Owned before s → (owner (after Master) s ≡ owner before s) ⊎ PassesUp before (after Master) s
    master_owners s l o = by (ℕ_discrete (get_or slots s 0) sender)
      where
        passes : (get_or slots s 0 ≡ sender → ⊥) → Dec (get_or (after Master).tables.slots s 0 ≡ sender) → (owner (after Master) s ≡ owner before s) ⊎ PassesUp before (after Master) s
        passes f (yes e) =
            let q = ((slot_passes_exactly_when n slots bitmap sender config s l o f).only_if e).1 in
            inr (record { another = λ g. f (sym g ∙ e); owned = rw (e, same_size) i; above = rw e (omega (arith, q, sender_above)) })
        passes f (no g) = let w = slot_passes_exactly_when n slots bitmap sender config s l o f in inl (w.otherwise (λ p. g (w.if p)))

        by : Dec (get_or slots s 0 ≡ sender) → (owner (after Master) s ≡ owner before s) ⊎ PassesUp before (after Master) s
        by (yes e) = inl (own_slot s l e)
        by (no f) = passes f (ℕ_discrete (get_or (after Master).tables.slots s 0) sender)

    pub master_moves : length slots ≡ slot_count → ReplicaAtZero n → Moves before (after Master)
    master_moves long z = record {
      at_zero = master_zero z;
      onward = record {
        size = same_size;
        epochs = master_rising;
        owners = λ s l o. master_owners s (omega (arith, long, l)) o;
      };
    }
