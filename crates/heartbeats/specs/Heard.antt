-- What a heartbeat past the refusals makes of the node and of the slot table, clock and currentEpoch already risen.
use Rattle.std.specs.Prelude.{◌≡◌, Bool, true, cond, List, ℕ, ◌+◌, ◌≤◌, ◌<◌, eqb, length, get_or}
use Rattle.tables.specs.Checks.{all_of}
use Rattle.tables.specs.Sets.{claimed}
use Rattle.state.specs.Node.{record_at, master_at, is_master}
use Rattle.state.specs.Changes.{with_role, with_config, with_records, with_current, on_record, risen}
use Rattle.state.specs.declared.Node.{Node}
use Rattle.state.specs.declared.Role.{Role}
use Rattle.state.specs.declared.Role.TheVariants.{Master, Replica}
use Rattle.soundness.specs.Sound.{sound, follow_sound}
use Rattle.ownership.specs.Owners.{ExactlyWhen}
use Rattle.heartbeats.specs.Heartbeats.{with_sender, tied, heartbeat}

-- what the checks have shown of a heartbeat that is not turned away
pub record PastChecks (n : Node) (sender : ℕ) (role : Role) (config : ℕ) : Type 0 where
  -- 7: the state is sound
  pub node_sound : sound n ≡ true
  -- 3: the sender is in the roster
  pub listed : sender < n.size
  -- 6: it is not this node
  pub another : sender ≡ n.me → ⊥
  -- 3 and 8: a replica follows a node of the roster, and not itself
  pub follows : follow_sound n.size sender role ≡ true
  -- 5: the configEpoch is not above the frame's currentEpoch, to which ours has risen
  pub within : config ≤ n.current

module _ (n : Node) (slots bitmap : List ℕ) (sender config : ℕ) where
  abbrev after : Role → Node
  after role = (heartbeat n slots bitmap sender role config).outcome.node

  abbrev slots_after : Role → List ℕ
  slots_after role = (heartbeat n slots bitmap sender role config).slots

  -- the tie is one that this node gives way to, with the sender as the frame makes it known
  abbrev gives_way : Bool
  gives_way = all_of (tied sender config (with_sender sender Master config n))

  -- of either role
  pub record HeartbeatLaws (role : Role) : Type 0 where
    -- the sender is listed as the frame says, every other node as it was
    pub lists : PastChecks n sender role config → (k : ℕ) → master_at (after role) k ≡ cond (eqb k sender) (is_master role) (master_at n k)
    -- nothing changes but currentEpoch and two records, the sender's and this node's
    pub rest : after role ≡ with_records (after role).records (with_current (after role).current n)
    pub room : length (after role).records ≡ length n.records
    pub others : (k : ℕ) → (k ≡ sender → ⊥) → (k ≡ n.me → ⊥) → record_at (after role) k ≡ record_at n k
    -- a sound state stays sound
    pub stays_sound : PastChecks n sender role config → sound (after role) ≡ true

  -- a replica's: its role becomes the frame's and nothing else changes; its bitmap claims nothing
  pub record ReplicaLaws (m : ℕ) : Type 0 where
    pub role_only : after (Replica m) ≡ on_record sender (with_role (Replica m)) n
    pub claims_nothing : slots_after (Replica m) ≡ slots

  -- a master's
  pub record MasterLaws : Type 0 where
    -- its role becomes the frame's, and its known configEpoch rises to the frame's if that is greater
    pub sender_record : PastChecks n sender Master config → record_at (after Master) sender ≡ with_config (risen (record_at n sender).config config) (with_role Master (record_at n sender))
    -- another node's slot goes to the sender exactly when the frame claims it and the frame's own configEpoch is above the
    -- owner's known one, and stays its owner's otherwise
    pub slot_passes : (s : ℕ) → s < length slots → get_or slots s 0 < n.size → (get_or slots s 0 ≡ sender → ⊥)
        → ExactlyWhen ((claimed bitmap s ≡ true) × ((record_at n (get_or slots s 0)).config < config)) (get_or (slots_after Master) s 0) sender (get_or slots s 0)
    -- last the tie: currentEpoch goes up by 1 and becomes our configEpoch, or both stay
    pub current : (after Master).current ≡ cond gives_way (n.current + 1) n.current
    pub own_record : PastChecks n sender Master config → record_at (after Master) n.me ≡ cond gives_way (with_config (n.current + 1) (record_at n n.me)) (record_at n n.me)
