-- A sound state stays sound under a heartbeat that passed the refusals.
use mathlib.Core.Path.{◌≡◌, refl}
use mathlib.Core.Bool.{Bool, true, false, cond}
use mathlib.Core.List.{List}
use Prim.Native.Nat.{ℕ, ◌+◌, ◌≤◌, ◌<◌}
use native.Mathlib.Omega.{arith}
use lib.Dec.{ltb}
use borrow.Author.Tests.{leb-true, ltb-true}
use Rattle.tables.specs.Checks.{all_of}
use Rattle.tables.specs.Sizes.{top}
use Rattle.tables.proofs.Checks.{part}
use Rattle.state.specs.Node.{record_at}
use Rattle.state.specs.Changes.{with_role, with_config, with_records, with_current, risen}
use Rattle.state.specs.declared.Node.{Node}
use Rattle.state.specs.declared.Role.{Role}
use Rattle.state.specs.declared.Role.TheVariants.{Master, Replica}
use Rattle.soundness.specs.Sound.{sound, record_sound, follow_sound, record_checks, own_clear}
use Rattle.soundness.proofs.Facts.{sound_part, record_is_sound}
use Rattle.soundness.proofs.Kept.{role_kept, config_kept, other_sound, same_role_sound, current_sound}
use Rattle.heartbeats.specs.Heartbeats.{heard_of, with_sender, tied, with_new_epoch, bumped, heartbeat}

risen_within : (old new current : ℕ) → old ≤ current → new ≤ current → risen old new ≤ current
risen_within old new current h l = by (ltb old new)
  where
    by : (b : Bool) → cond b new old ≤ current
    by true = l
    by false = h

module _ (n : Node) (h : sound n ≡ true) where
  -- no known configEpoch passes currentEpoch
  known_within : (k : ℕ) → k < n.size → (record_at n k).config ≤ n.current
  known_within k l = leb-true _ _ (part 4 (record_checks n.size n.clock n.current k (record_at n k)) (record_is_sound n h k l))

  heard_record : (sender : ℕ) (role : Role) (config : ℕ) → follow_sound n.size sender role ≡ true → config ≤ n.current → sender < n.size → record_sound n.size n.clock n.current sender (heard_of role config (record_at n sender)) ≡ true
  heard_record sender (Replica m) config f g l = role_kept n.size n.clock n.current sender (record_at n sender) (record_is_sound n h sender l) (Replica m) f
  heard_record sender Master config f g l =
      config_kept n.size n.clock n.current sender (with_role Master (record_at n sender))
      (role_kept n.size n.clock n.current sender (record_at n sender) (record_is_sound n h sender l) Master f)
      (risen (record_at n sender).config config) (risen_within (record_at n sender).config config n.current (known_within sender l) g)

  sender_sound : (sender : ℕ) (role : Role) (config : ℕ) → (sender ≡ n.me → ⊥) → follow_sound n.size sender role ≡ true → config ≤ n.current → sound (with_sender sender role config n) ≡ true
  unfolding with_sender
  sender_sound sender role config d f g = other_sound n h sender (heard_of role config (record_at n sender)) (λ l. heard_record sender role config f g l) d

  new_epoch_sound : n.current < top → sound (with_new_epoch n) ≡ true
  unfolding with_records with_current own_clear
  new_epoch_sound l =
      let m = with_current (n.current + 1) n in
      let k : sound m ≡ true = current_sound n h (n.current + 1) (omega arith) (omega arith) in
      same_role_sound m k n.me (with_config (n.current + 1) (record_at n n.me)) (λ i. config_kept n.size n.clock (n.current + 1) n.me (record_at n n.me) (record_is_sound m k n.me i) (n.current + 1) (omega arith)) refl (λ e. sound_part m k 9)

  bumped_sound : (sender config : ℕ) → sound (bumped sender config n) ≡ true
  unfolding bumped
  bumped_sound sender config = by (all_of (tied sender config n)) refl
    where
      by : (b : Bool) → all_of (tied sender config n) ≡ b → sound (cond b (with_new_epoch n) n) ≡ true
      by true e = new_epoch_sound (ltb-true n.current top (part 4 (tied sender config n) e))
      by false e = h

-- a replica that the frame says follows a listed node and not itself; a configEpoch not above currentEpoch, which has risen
-- to the frame's
pub heartbeat_sound : (n : Node) (slots bitmap : List ℕ) (sender : ℕ) (role : Role) (config : ℕ) → sound n ≡ true → (sender ≡ n.me → ⊥) → follow_sound n.size sender role ≡ true → config ≤ n.current → sound (heartbeat n slots bitmap sender role config).outcome.node ≡ true
unfolding heartbeat
heartbeat_sound n slots bitmap sender (Replica m) config h d f g = sender_sound n h sender (Replica m) config d f g
heartbeat_sound n slots bitmap sender Master config h d f g = bumped_sound (with_sender sender Master config n) (sender_sound n h sender Master config d f g) sender config
