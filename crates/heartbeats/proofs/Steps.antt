-- The heartbeat from its steps: the sender's record and this node's own, each changed in place, and the claims between.
use mathlib.Core.Path.{◌≡◌, refl, sym, ap, ◌∙◌}
use mathlib.Core.Bool.{Bool, true, false, cond}
use mathlib.Core.List.{List}
use Prim.Native.Nat.{ℕ, ◌+◌, ◌≤◌}
use lib.ListN.{length, get_or, set, get_or-eq_default}
use lib.Seq.{get_or-set_same, set_out}
use lib.Dec.{ltb}
use borrow.Author.Tests.{ltb-true, ltb-false}
use Rattle.tables.specs.Sizes.{node_room}
use Rattle.tables.specs.Checks.{all_of}
use Rattle.answers.specs.declared.Tally.{Tally}
use Rattle.answers.specs.declared.Answer.TheVariants.{Heard}
use Rattle.state.specs.Node.{blank, record_at}
use Rattle.state.specs.Changes.{with_config, with_current, with_records}
use Rattle.state.specs.Outcomes.{Slotted, answered}
use Rattle.state.specs.declared.Node.{Node}
use Rattle.state.specs.declared.Record.{Record}
use Rattle.state.specs.declared.Role.{Role}
use Rattle.state.specs.declared.Role.TheVariants.{Master, Replica}
use Rattle.ownership.specs.Claim.{Claimed, claimant, claim}
use Rattle.records.specs.Known.{known_configs, in_room, place_of}
use Rattle.records.proofs.Known.{changed_there}
use Rattle.heartbeats.specs.Heartbeats.{heard_of, with_sender, no_claims, tied, with_new_epoch, bumped, heartbeat}

-- ---- the sender's record, changed at its place

module _ (n : Node) (room : length n.records ≡ node_room) (sender config : ℕ) (role : Role) where
  pub sender_changed : (from : ℕ) (there heard kept : Record) → from ≡ place_of sender → there ≡ get_or n.records from blank → heard ≡ heard_of role config there → kept ≡ in_room sender heard there → with_records (set n.records from kept) n ≡ with_sender sender role config n
  unfolding with_sender
  sender_changed from there heard kept ef et eh ek =
      rw (ek, eh, et, ef) (ap (λ (rs : List Record). with_records rs n) (changed_there n.records room sender (heard_of role config)))

-- it says what the frame says
pub sender_role : (n : Node) (sender config : ℕ) (heard : Node) → heard ≡ with_sender sender Master config n → (record_at heard sender).role ≡ Master
unfolding with_sender with_records
sender_role n sender config heard q = ap (λ (m : Node). (record_at m sender).role) q ∙ by (ltb sender (length n.records)) refl
  where
    r : Record
    r = heard_of Master config (record_at n sender)

    by : (b : Bool) → ltb sender (length n.records) ≡ b → (get_or (set n.records sender r) sender blank).role ≡ Master
    by true e = ap (λ (x : Record). x.role) (get_or-set_same n.records sender r blank (ltb-true sender (length n.records) e))
    by false e =
        let past : length n.records ≤ sender = ltb-false sender (length n.records) e in
        ap (λ (rs : List Record). (get_or rs sender blank).role) (set_out n.records sender r past)
        ∙ ap (λ (x : Record). x.role) (get_or-eq_default n.records blank past)

-- ---- the tie

module _ (sender config : ℕ) (n : Node) where
  pub not_tied : all_of (tied sender config n) ≡ false → n ≡ bumped sender config n
  unfolding bumped
  not_tied e = sym (ap (λ (b : Bool). cond b (with_new_epoch n) n) e)

  -- this node's record, changed at its place
  pub new_epoch : length n.records ≡ node_room → all_of (tied sender config n) ≡ true → (at : ℕ) (mine raised kept : Record) → at ≡ place_of n.me → mine ≡ get_or n.records at blank → raised ≡ with_config (n.current + 1) mine → kept ≡ in_room n.me raised mine → with_current (n.current + 1) (with_records (set n.records at kept) n) ≡ bumped sender config n
  unfolding bumped
  new_epoch room e at mine raised kept ea em er ek =
      rw (ek, er, em, ea) (ap (λ (rs : List Record). with_current (n.current + 1) (with_records rs n)) (changed_there n.records room n.me (with_config (n.current + 1))))
      ∙ sym (ap (λ (b : Bool). cond b (with_new_epoch n) n) e)

-- ---- a replica's frame, and a master's

pub replica_heard : (n : Node) (slots bitmap : List ℕ) (sender config : ℕ) (role : Role) (m : ℕ) → role ≡ Replica m → (heard : Node) → heard ≡ with_sender sender role config n → ◌≡◌ {A = Slotted} (record { outcome = answered heard (Heard no_claims); slots = slots }) (heartbeat n slots bitmap sender role config)
unfolding heartbeat
replica_heard n slots bitmap sender config role m e heard eh = rw (eh, e)

pub master_heard : (n : Node) (slots bitmap : List ℕ) (sender config : ℕ) (heard last : Node) (configs after : List ℕ) (tally : Tally) → heard ≡ with_sender sender Master config n → configs ≡ known_configs heard.size heard.records → record { tally = tally; slots = after } ≡ claim (claimant configs heard.size sender config) bitmap slots → last ≡ bumped sender config heard → ◌≡◌ {A = Slotted} (record { outcome = answered last (Heard tally); slots = after }) (heartbeat n slots bitmap sender Master config)
unfolding heartbeat
master_heard n slots bitmap sender config heard last configs after tally eh ec et el =
    rw (ap (λ (w : Claimed). w.tally) et, ap (λ (w : Claimed). w.slots) et, el, ec, eh)
