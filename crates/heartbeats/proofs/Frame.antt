-- What a heartbeat changes and what it keeps.
use mathlib.Core.Path.{◌≡◌, refl, sym, ap, ◌∙◌}
use mathlib.Core.Bool.{Bool, true, false, cond}
use mathlib.Core.List.{List}
use Prim.Native.Nat.{ℕ, ◌+◌, ◌≤◌, ◌<◌}
use native.Mathlib.Decide.{ℕ_discrete}
use native.Mathlib.Omega.{arith}
use lib.ListN.{length, get_or, set, length-set, get_or-map}
use lib.Seq.{get_or-set_same, get_or-set_other, map-set_same}
use lib.Dec.{eqb, ltb}
use borrow.Author.Tests.{lt-ltb, eq-eqb, ne_eqb}
use Rattle.tables.specs.Checks.{all_of}
use Rattle.tables.specs.Sizes.{node_room}
use Rattle.tables.specs.Sets.{claimed}
use Rattle.state.specs.Node.{blank, record_at, master_at, is_master}
use Rattle.state.specs.Changes.{with_role, with_config, with_record, with_records, with_current, on_record, risen}
use Rattle.state.specs.declared.Node.{Node}
use Rattle.state.specs.declared.Record.{Record}
use Rattle.state.specs.declared.Role.{Role}
use Rattle.state.specs.declared.Role.TheVariants.{Master, Replica}
use Rattle.ownership.specs.Claim.{claimant}
use Rattle.records.specs.Known.{known_configs}
use Rattle.ownership.specs.Owners.{ExactlyWhen}
use Rattle.ownership.proofs.Owners.{passes_exactly_when}
use Rattle.records.proofs.Known.{known_config}
use Rattle.heartbeats.specs.Heartbeats.{heard_of, with_sender, tied, with_new_epoch, bumped, heartbeat}

-- ---- a record by its number, after a change

record_same : (k : ℕ) (r : Record) (n : Node) → k < length n.records → record_at (with_record k r n) k ≡ r
unfolding with_records
record_same k r n l = get_or-set_same n.records k r blank l

record_other : (k : ℕ) (r : Record) (n : Node) (j : ℕ) → (j ≡ k → ⊥) → record_at (with_record k r n) j ≡ record_at n j
unfolding with_records
record_other k r n j d = get_or-set_other n.records k j r blank d

sender_other : (sender : ℕ) (role : Role) (config : ℕ) (n : Node) (j : ℕ) → (j ≡ sender → ⊥) → record_at (with_sender sender role config n) j ≡ record_at n j
unfolding with_sender
sender_other sender role config n j d = record_other sender (heard_of role config (record_at n sender)) n j d

new_epoch_other : (n : Node) (j : ℕ) → (j ≡ n.me → ⊥) → record_at (with_new_epoch n) j ≡ record_at n j
unfolding with_current
new_epoch_other n j d = record_other n.me (with_config (n.current + 1) (record_at n n.me)) n j d

new_epoch_own : (n : Node) → n.me < length n.records → record_at (with_new_epoch n) n.me ≡ with_config (n.current + 1) (record_at n n.me)
unfolding with_current
new_epoch_own n l = record_same n.me (with_config (n.current + 1) (record_at n n.me)) n l

-- its own number, the size and currentEpoch as the claims find them
module _ (n : Node) (sender config : ℕ) where
  sender_me : (with_sender sender Master config n).me ≡ n.me
  unfolding with_sender with_records
  sender_me = refl

  sender_size : (with_sender sender Master config n).size ≡ n.size
  unfolding with_sender with_records
  sender_size = refl

  sender_same : sender < length n.records → record_at (with_sender sender Master config n) sender ≡ heard_of Master config (record_at n sender)
  unfolding with_sender
  sender_same l = record_same sender (heard_of Master config (record_at n sender)) n l

  new_epoch_me : n.me < length n.records → record_at (with_new_epoch (with_sender sender Master config n)) n.me ≡ with_config (n.current + 1) (record_at (with_sender sender Master config n) n.me)
  unfolding with_sender with_records
  new_epoch_me l = new_epoch_own (with_sender sender Master config n) (rw (length-set n.records sender (heard_of Master config (record_at n sender))) l)

module _ (n : Node) (slots bitmap : List ℕ) (sender : ℕ) (config : ℕ) where
  abbrev after : Role → Node
  after role = (heartbeat n slots bitmap sender role config).outcome.node

  -- the node as the claims find it, and whether the tie bumps it
  abbrev heard : Node
  heard = with_sender sender Master config n

  abbrev bumps : Bool
  bumps = all_of (tied sender config (with_sender sender Master config n))

  -- the records and currentEpoch change, and nothing else
  pub heartbeat_keeps : (role : Role) → after role ≡ with_records (after role).records (with_current (after role).current n)
  unfolding heartbeat with_sender bumped with_records with_current
  heartbeat_keeps (Replica m) = refl
  heartbeat_keeps Master = by bumps
    where
      by : (b : Bool) → cond b (with_new_epoch heard) heard ≡ with_records (cond b (with_new_epoch heard) heard).records (with_current (cond b (with_new_epoch heard) heard).current n)
      by true = refl
      by false = refl

  -- there are as many records
  pub heartbeat_room : (role : Role) → length (after role).records ≡ length n.records
  unfolding heartbeat with_sender bumped with_records with_current
  heartbeat_room (Replica m) = length-set n.records sender _
  heartbeat_room Master = by bumps
    where
      by : (b : Bool) → length (cond b (with_new_epoch heard) heard).records ≡ length n.records
      by true = length-set heard.records n.me _ ∙ length-set n.records sender _
      by false = length-set n.records sender _

  -- a replica's heartbeat: the sender's role, and nothing else; no entry of the table
  pub replica_role_only : (m : ℕ) → after (Replica m) ≡ on_record sender (with_role (Replica m)) n
  unfolding heartbeat with_sender
  replica_role_only m = refl

  pub replica_claims_nothing : (m : ℕ) → (heartbeat n slots bitmap sender (Replica m) config).slots ≡ slots
  unfolding heartbeat
  replica_claims_nothing m = refl

  -- currentEpoch goes up by 1 at a tie, and stays otherwise
  pub master_current : (after Master).current ≡ cond bumps (n.current + 1) n.current
  unfolding heartbeat bumped with_sender with_records with_current
  master_current = by bumps
    where
      by : (b : Bool) → (cond b (with_new_epoch heard) heard).current ≡ cond b (n.current + 1) n.current
      by true = refl
      by false = refl

  -- the record of a node that is neither the sender nor this one stays, bit for bit
  pub others_kept : (role : Role) (k : ℕ) → (k ≡ sender → ⊥) → (k ≡ n.me → ⊥) → record_at (after role) k ≡ record_at n k
  unfolding heartbeat bumped
  others_kept (Replica m) k d e = sender_other sender (Replica m) config n k d
  others_kept Master k d e = by bumps
    where
      by : (b : Bool) → record_at (cond b (with_new_epoch heard) heard) k ≡ record_at n k
      by true = new_epoch_other heard k (λ q. e (q ∙ sender_me n sender config)) ∙ sender_other sender Master config n k d
      by false = sender_other sender Master config n k d

  -- a master's own record: its role, and its known configEpoch risen to the frame's
  pub sender_record : (sender ≡ n.me → ⊥) → sender < length n.records → record_at (after Master) sender ≡ with_config (risen (record_at n sender).config config) (with_role Master (record_at n sender))
  unfolding heartbeat bumped
  sender_record d l = by bumps
    where
      by : (b : Bool) → record_at (cond b (with_new_epoch heard) heard) sender ≡ with_config (risen (record_at n sender).config config) (with_role Master (record_at n sender))
      by true = new_epoch_other heard sender (λ q. d (q ∙ sender_me n sender config)) ∙ sender_same n sender config l
      by false = sender_same n sender config l

  -- this node's own record: the new epoch at a tie, and nothing else
  pub own_record : (n.me ≡ sender → ⊥) → n.me < length n.records → record_at (after Master) n.me ≡ cond bumps (with_config (n.current + 1) (record_at n n.me)) (record_at n n.me)
  unfolding heartbeat bumped
  own_record d l = by bumps
    where
      by : (b : Bool) → record_at (cond b (with_new_epoch heard) heard) n.me ≡ cond b (with_config (n.current + 1) (record_at n n.me)) (record_at n n.me)
      by true = new_epoch_me n sender config l ∙ ap (with_config (n.current + 1)) (sender_other sender Master config n n.me d)
      by false = sender_other sender Master config n n.me d

-- ---- who is listed as a master

role_at : Node → ℕ → Role
role_at n k = (record_at n k).role

same_role : (n : Node) (k x j : ℕ) → role_at (on_record k (with_config x) n) j ≡ role_at n j
unfolding role_at with_records
same_role n k x j =
    sym (get_or-map (λ (r : Record). r.role) (set n.records k (with_config x (record_at n k))) j blank)
    ∙ ap (λ (l : List Role). get_or l j Master) (map-set_same (λ (r : Record). r.role) n.records k (with_config x (record_at n k)) blank refl)
    ∙ get_or-map (λ (r : Record). r.role) n.records j blank

same_role_bumped : (sender config : ℕ) (n : Node) (j : ℕ) → role_at (bumped sender config n) j ≡ role_at n j
unfolding bumped with_current role_at
same_role_bumped sender config n j = by (all_of (tied sender config n))
  where
    by : (b : Bool) → role_at (cond b (with_new_epoch n) n) j ≡ role_at n j
    by true = same_role n n.me (n.current + 1) j
    by false = refl

module _ (n : Node) (slots bitmap : List ℕ) (sender config : ℕ) (role : Role) where
  -- the role recorded of each node, after a frame
  roles : (j : ℕ) → role_at (heartbeat n slots bitmap sender role config).outcome.node j ≡ role_at (with_sender sender role config n) j
  unfolding heartbeat
  roles j = by role
    where
      by : (r : Role) → role_at (heartbeat n slots bitmap sender r config).outcome.node j ≡ role_at (with_sender sender r config n) j
      by (Replica m) = refl
      by Master = same_role_bumped sender config (with_sender sender Master config n) j

  role_heard : (r : Role) (x : Record) → (heard_of r config x).role ≡ r
  role_heard (Replica m) x = refl
  role_heard Master x = refl

  role_sender : sender < length n.records → role_at (with_sender sender role config n) sender ≡ role
  unfolding role_at with_sender
  role_sender l = ap (λ (r : Record). r.role) (record_same sender (heard_of role config (record_at n sender)) n l) ∙ role_heard role (record_at n sender)

  role_other : (j : ℕ) → (j ≡ sender → ⊥) → role_at (with_sender sender role config n) j ≡ role_at n j
  unfolding role_at
  role_other j d = ap (λ (r : Record). r.role) (sender_other sender role config n j d)

  same_size : (heartbeat n slots bitmap sender role config).outcome.node.size ≡ n.size
  unfolding with_records with_current
  same_size = ap (λ (m : Node). m.size) (heartbeat_keeps n slots bitmap sender config role)

  -- the sender is listed as the frame says, every other node as it was
  pub heartbeat_lists : sender < n.size → n.size ≤ node_room → length n.records ≡ node_room → (j : ℕ) → master_at (heartbeat n slots bitmap sender role config).outcome.node j ≡ cond (eqb j sender) (is_master role) (master_at n j)
  unfolding role_at
  heartbeat_lists l f long j =
      ap (λ (s : ℕ). cond (ltb j s) (is_master (role_at (heartbeat n slots bitmap sender role config).outcome.node j)) false) same_size
      ∙ ap (λ (r : Role). cond (ltb j n.size) (is_master r) false) (roles j)
      ∙ by (ℕ_discrete j sender)
    where
      by : Dec (j ≡ sender) → cond (ltb j n.size) (is_master (role_at (with_sender sender role config n) j)) false ≡ cond (eqb j sender) (is_master role) (master_at n j)
      by (yes e) = rw (e, eq-eqb sender sender refl, lt-ltb sender n.size l) (ap is_master (role_sender (omega arith)))
      by (no d) = rw (ne_eqb j sender d, role_other j d)

-- ---- another node's slot, by the frame

-- the claims see what was known of the others before the frame
pub known_before : (n : Node) (sender config o : ℕ) → (o ≡ sender → ⊥) → o < n.size → let m = with_sender sender Master config n in get_or (known_configs m.size m.records) o 0 ≡ (record_at n o).config
known_before n sender config o d l = let m = with_sender sender Master config n in
    known_config m.size m.records o (rw (sender_size n sender config) l) ∙ ap (λ (r : Record). r.config) (sender_other sender Master config n o d)

-- another node's slot passes to the sender of a master's heartbeat exactly when the frame claims it with a configEpoch
-- strictly above the owner's known one, and stays its owner's otherwise
pub slot_passes_exactly_when : (n : Node) (slots bitmap : List ℕ) (sender config s : ℕ) → s < length slots → get_or slots s 0 < n.size → (get_or slots s 0 ≡ sender → ⊥) → ExactlyWhen ((claimed bitmap s ≡ true) × ((record_at n (get_or slots s 0)).config < config)) (get_or (heartbeat n slots bitmap sender Master config).slots s 0) sender (get_or slots s 0)
unfolding heartbeat
slot_passes_exactly_when n slots bitmap sender config s h l d =
    let m = with_sender sender Master config n in
    let c = claimant (known_configs m.size m.records) m.size sender config in
    let p = passes_exactly_when c bitmap slots s h (rw (sender_size n sender config) l) d in
    rw (← known_before n sender config (get_or slots s 0) d l) p
