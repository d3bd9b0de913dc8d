-- The claims of the computed lists, without computing their lines: each line reads as the heartbeat that was written.
use Rattle.std.specs.Prelude.{Some}
use mathlib.Core.Path.{◌≡◌, refl, ap, ◌∙◌}
use mathlib.Core.Bool.{true, false}
use mathlib.Core.List.{List, [], ◌∷◌}
use Prim.Native.Nat.{ℕ, zero, suc, ◌/◌, ◌%◌, ◌≤◌, ◌<◌}
use native.Mathlib.Omega.{arith}
use lib.Dec.{eqb, ltb}
use lib.ListN.{length, get_or, replicate}
use borrow.Author.Tests.{le-ltb, ne_eqb, ltb-true}
use Rattle.tables.specs.Checks.{all_of}
use Rattle.tables.specs.Sizes.{slot_count, report_count, unowned}
use Rattle.tables.specs.Lists.{map_from}
use Rattle.tables.specs.Sets.{bit, claimed}
use Rattle.tables.proofs.Checks.{part}
use Rattle.tables.proofs.Sets.{bit_zero, bit_power}
use Rattle.tables.proofs.Walks.{map_kept}
use Rattle.answers.specs.Answers.{number}
use Rattle.answers.proofs.Checks.{by_check}
use Rattle.state.specs.Changes.{arrived}
use Rattle.state.specs.Outcomes.{Stepped}
use Rattle.state.specs.declared.Role.TheVariants.{Master}
use Rattle.hexdigits.proofs.Writing.{no_bytes, one_byte}
use Rattle.frames.specs.Lines.{Bytes, Fits}
use Rattle.frames.specs.declared.Frame.{Frame}
use Rattle.frames.specs.declared.Kind.TheVariants.{Heartbeat}
use Rattle.frames.proofs.OneLine.{one_line}
use Rattle.refusals.specs.Refusals.{refusal}
use Rattle.ownership.specs.Claim.{Claimant, fate, fate_at, entry_after, claim}
use Rattle.heartbeats.specs.Heartbeats.{heartbeat}
use Rattle.kinds.specs.Kinds.{slotted_step, on_kind}
use Rattle.node.specs.Step.{on_frame}
use Rattle.node.specs.Calls.{Call, called, outcome}
use Rattle.monotone.specs.Runs.{World, after}
use Rattle.monotone.specs.Before.{before14}
use Rattle.monotone.specs.Examples.{claims}
use Rattle.answers.specs.Refusing.{cleared}
use Rattle.monotone.proofs.Onward.{left}

-- ---- the line

abbrev bitmap : List ℕ
bitmap = 1 ∷ replicate 2047 0

zero_bytes : (n : ℕ) → Bytes (replicate n 0)
zero_bytes zero = no_bytes
zero_bytes (suc n) = one_byte 0 (replicate n 0) (omega arith) (zero_bytes n)

abbrev pub claim_of : ℕ → ℕ → Frame
claim_of sender epoch = record { header = record { time = 0; epoch = epoch; config = epoch }; kind = Heartbeat sender Master }

claim_fits : (sender epoch : ℕ) → sender < 256 → epoch < 4096 → Fits (claim_of sender epoch) bitmap
claim_fits sender epoch s e = (
  one_byte 1 (sender ∷ replicate 2 0) (omega arith) (one_byte sender (replicate 2 0) s (zero_bytes 2)),
  (omega (arith, e), omega (arith, e), omega arith, refl, one_byte 1 (replicate 2047 0) (omega arith) (zero_bytes 2047)),
)

-- ---- the call

-- it is not answered 30: then it left before [14] what it leaves today
abbrev pub Unwon : World → Call → Type 0
Unwon w c = eqb (number (outcome w.node w.tables c).answer) 30 ≡ false

pub unwon : (w : World) (c : Call) → Unwon w c → before14 w c ≡ after w c
unwon w c e = rw e

-- the claim is heard: it fits its line, and no check turns it away
pub record Heard (w : World) (sender epoch : ℕ) : Type 0 where
  pub small : all_of (ltb sender 256 ∷ ltb epoch 4096 ∷ []) ≡ true
  pub slots : length w.tables.slots ≡ slot_count
  pub reports : length w.tables.reports ≡ report_count
  pub passes : refusal w.node slot_count report_count (Some (claim_of sender epoch)) ≡ cleared

abbrev pub heard : World → ℕ → ℕ → Stepped
heard w sender epoch = slotted_step w.tables.reports (heartbeat (arrived 0 epoch w.node) w.tables.slots bitmap sender Master epoch)

module _ (w : World) (sender epoch : ℕ) (h : Heard w sender epoch) where
  is_heard : called w.node w.tables (claims sender epoch) ≡ heard w sender epoch
  unfolding on_frame on_kind
  is_heard =
      let f = claim_fits sender epoch (ltb-true sender 256 (part 0 (ltb sender 256 ∷ ltb epoch 4096 ∷ []) h.small)) (ltb-true epoch 4096 (part 1 (ltb sender 256 ∷ ltb epoch 4096 ∷ []) h.small)) in
      rw (by_check, one_line.read_back (claim_of sender epoch) bitmap f, one_line.bitmap_back (claim_of sender epoch) bitmap f refl, h.slots, h.reports, h.passes)

  pub after_claim : after w (claims sender epoch) ≡ left (heard w sender epoch)
  after_claim = ap left is_heard

  -- by either step, since it is not answered 30
  pub before_claim : before14 w (claims sender epoch) ≡ left (heard w sender epoch)
  unfolding heartbeat
  before_claim = unwon w (claims sender epoch) (ap (λ (x : Stepped). eqb (number x.outcome.answer) 30) is_heard) ∙ after_claim

-- ---- the table of which it claims slot 0, and which nobody owns

zeros : (m k : ℕ) → ◌≡◌ {A = ℕ} (get_or (replicate m 0) k 0) 0
zeros zero k = refl
zeros (suc m) zero = refl
zeros (suc m) (suc k) = zeros m k

-- no other slot is claimed
one_slot_lem : (m s : ℕ) → 0 < s → claimed (1 ∷ replicate m 0) s ≡ false
one_slot_lem m s l = by (s / 8) refl
  where
    by : (i : ℕ) → s / 8 ≡ i → bit (get_or (1 ∷ replicate m 0) i 0) (s % 8) ≡ false
    by zero e = let q : s % 8 ≡ s = omega arith in rw q (bit_power 0 s ∙ ne_eqb s 0 (λ z. omega (arith, z, l)))
    by (suc i) e = rw (zeros m i) (bit_zero (s % 8))

-- so that the first entry alone changes
pub first_bound : (c : Claimant) (m : ℕ) (others : List ℕ) → c.size ≤ unowned → (claim c (1 ∷ replicate m 0) (unowned ∷ others)).slots ≡ c.sender ∷ others
unfolding claim map_from fate
first_bound c m others h =
    rw (le-ltb unowned c.size h) (ap (λ (l : List ℕ). c.sender ∷ l)
    (map_kept (λ s o. entry_after c (fate_at c (1 ∷ replicate m 0) s o) o) 1 others (λ s o l g. rw (one_slot_lem m s l))))
