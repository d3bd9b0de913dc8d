-- A heartbeat on two nodes that are alike: the same is known of the owners, and the same ties are bumped.
use mathlib.Core.Path.{◌≡◌, refl, sym, ap, subst, ◌∙◌}
use mathlib.Core.Bool.{Bool, true, false, cond}
use mathlib.Core.List.{List}
use Prim.Native.Nat.{ℕ, ◌+◌, ◌<◌}
use native.Mathlib.Nat.{zero-add}
use native.Mathlib.Omega.{arith}
use lib.Dec.{ltb}
use lib.ListN.{length}
use lib.Seq.{ext_get_or}
use Rattle.tables.specs.Checks.{all_of}
use Rattle.tables.proofs.Walks.{length_mapped, mapped_at}
use Rattle.answers.specs.declared.Answer.TheVariants.{Heard}
use Rattle.state.specs.Node.{record_at, blank}
use Rattle.state.specs.Changes.{with_records, with_current, with_config, on_record}
use Rattle.state.specs.Same.{held}
use Rattle.state.specs.declared.Node.{Node}
use Rattle.state.specs.declared.Record.{Record}
use Rattle.state.specs.declared.Role.{Role}
use Rattle.state.specs.declared.Role.TheVariants.{Master, Replica}
use Rattle.records.specs.Known.{known_configs}
use Rattle.ownership.specs.Claim.{Claimed, claimant, claim}
use Rattle.heartbeats.specs.Heartbeats.{heard_of, with_sender, claimed_by, tied, with_new_epoch, bumped, heartbeat}
use Rattle.kinds.specs.Kinds.{slotted_step}
use Rattle.sameness.proofs.Seen.{Seen, Alike, bare, listed_read, master_read, record_read, Changes, both_change, record_change, reads_alike, reads_where, changes_alike}
use Rattle.sameness.proofs.Told.{Told}

-- ---- the sender

sender_change : (sender : ℕ) (role : Role) (config : ℕ) → Changes (with_sender sender role config)
unfolding with_sender
sender_change sender role config = record_change sender (λ n. heard_of role config) (λ n. refl)

-- ---- the tie

-- where this node is listed
tied_read : (sender config : ℕ) (n : Node) → n.me < n.size → tied sender config (bare (held n)) ≡ tied sender config n
tied_read sender config n h = rw (master_read sender n, record_read n.me n h)

new_epoch_change : Changes with_new_epoch
unfolding with_current
new_epoch_change n = both_change (λ m. on_record n.me (with_config (n.current + 1)) m) (with_current (n.current + 1)) (record_change n.me (λ m. with_config (n.current + 1)) (λ m. refl)) (λ m. refl) n

module _ (a b : Node) (e : Alike a b) where
  bumped_alike : (sender config : ℕ) → a.me < a.size → Alike (bumped sender config a) (bumped sender config b)
  unfolding bumped
  bumped_alike sender config h =
      subst (λ (t : Bool). Alike (bumped sender config a) (cond t (with_new_epoch b) b)) (ap all_of tied_alike) (by (all_of (tied sender config a)))
    where
      tied_alike : tied sender config a ≡ tied sender config b
      tied_alike = reads_where a b e (λ s. s.me < s.size) h (tied sender config) (tied_read sender config)

      by : (t : Bool) → Alike (cond t (with_new_epoch a) a) (cond t (with_new_epoch b) b)
      by true = changes_alike a b e with_new_epoch new_epoch_change
      by false = e

  -- ---- the claims

  configs_alike : known_configs a.size a.records ≡ known_configs b.size b.records
  unfolding known_configs
  configs_alike =
      ext_get_or 0 _ _ (length_mapped (known a) 0 a.records ∙ long ∙ sym (length_mapped (known b) 0 b.records)) (λ k h.
      let i : k < length a.records = rw (length_mapped (known a) 0 a.records) at h in
      mapped_at (known a) 0 a.records k blank 0 i
      ∙ rw (zero-add k) (reads_alike a b e (λ n. known n k (record_at n k)) (listed_read (λ r. r.config) 0 k))
      ∙ sym (mapped_at (known b) 0 b.records k blank 0 (omega (arith, long))))
    where
      known : Node → ℕ → Record → ℕ
      known n k r = cond (ltb k n.size) r.config 0

      long : length a.records ≡ length b.records
      long = ap (λ (s : Seen). s.records) e

  claims_alike : (sender config : ℕ) (bitmap slots : List ℕ) → claimed_by sender config bitmap a slots ≡ claimed_by sender config bitmap b slots
  claims_alike sender config bitmap slots = λ i. claim (claimant (configs_alike i) (e i).held.size sender config) bitmap slots

-- ---- the frame

pub heartbeat_told : (a b : Node) → Alike a b → a.me < a.size → (slots reports bitmap : List ℕ) (sender : ℕ) (role : Role) (config : ℕ)
    → Told (slotted_step reports (heartbeat a slots bitmap sender role config)) (slotted_step reports (heartbeat b slots bitmap sender role config))
unfolding heartbeat with_sender with_records
heartbeat_told a b e h slots reports bitmap sender (Replica m) config =
    record { answer = refl; node = changes_alike a b e (with_sender sender (Replica m) config) (sender_change sender (Replica m) config); slots = refl; reports = refl }
heartbeat_told a b e h slots reports bitmap sender Master config =
    let x : Alike (with_sender sender Master config a) (with_sender sender Master config b) = changes_alike a b e _ (sender_change sender Master config) in
    let p = claims_alike _ _ x sender config bitmap slots in
    record { answer = ap (λ (c : Claimed). Heard c.tally) p; node = bumped_alike _ _ x sender config h; slots = ap (λ (c : Claimed). c.slots) p; reports = refl }
