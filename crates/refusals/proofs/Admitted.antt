-- What a frame that none of the checks refused has: `admitted` for who goes through them, `admits` and `passes` for who knows
-- what they came to.
use Rattle.std.specs.Prelude.{Err, None, Option, Some}
use mathlib.Core.Path.{◌≡◌, refl}
use mathlib.Core.Bool.{Bool, true, false}
use mathlib.Core.List.{List, [], ◌∷◌}
use Prim.Native.Nat.{ℕ, ◌≤◌}
use lib.Dec.{eqb, ltb, leb}
use borrow.Author.Tests.{eqb-true, not-false, ltb-false, leb-false}
use Rattle.tables.specs.Sizes.{slot_count, report_count, top, time_end}
use Rattle.tables.specs.Checks.{checked}
use Rattle.tables.proofs.Checks.{none, part}
use Rattle.answers.proofs.Checks.{on_check, test_for, refusals_pass, unrefused, in_two}
use Rattle.state.specs.Changes.{arrived}
use Rattle.state.specs.declared.Node.{Node}
use Rattle.entry.specs.Entry.{entry_checks}
use Rattle.soundness.specs.Sound.{sound}
use Rattle.soundness.proofs.Kept.{arrived_sound}
use Rattle.frames.specs.declared.Frame.{Frame}
use Rattle.answers.specs.Refusing.{cleared}
use Rattle.refusals.specs.Refusals.{is_unlisted, follows_itself, names_this_node, is_beyond, frame_refusals, both_long, refusals, turns_away, frame_refusal, refusal}

pub record Admitted (n : Node) (slots reports : ℕ) (f : Frame) : Type 0 where
  pub lengths : both_long slots reports ≡ true
  pub node_sound : sound n ≡ true
  pub all_listed : is_unlisted n.size f.kind ≡ false
  pub follows_another : follows_itself f.kind ≡ false
  pub not_this_node : names_this_node n.me f.kind ≡ false
  pub within_bounds : is_beyond f.header ≡ false
  pub not_before : ltb f.header.time n.clock ≡ false

-- then the slot table is whole
pub slots_whole : (slots reports : ℕ) → both_long slots reports ≡ true → slots ≡ slot_count
slots_whole slots reports h = eqb-true slots slot_count (part 0 (eqb slots slot_count ∷ eqb reports report_count ∷ []) h)

module _ (n : Node) (slots reports : ℕ) where
  pub admitted : (f : Frame) → ((a : ℕ) → test_for a (refusals n slots reports (Some f)) ≡ false) → Admitted n slots reports f
  unfolding refusals frame_refusals
  admitted f t = record {
    lengths = not-false _ (t 1);
    node_sound = not-false _ (t 7);
    all_listed = t 3;
    follows_another = t 8;
    not_this_node = t 6;
    within_bounds = t 5;
    not_before = t 4;
  }

  pub admits : (f : Frame) → refusal n slots reports (Some f) ≡ cleared → Admitted n slots reports f
  admits f e = admitted f (λ a. unrefused a (refusals n slots reports (Some f)) e)

  pub passes : (f : Frame) → Admitted n slots reports f → refusal n slots reports (Some f) ≡ cleared
  unfolding refusals frame_refusals
  passes f h = simp (h.lengths, h.node_sound, h.all_listed, h.follows_another, h.not_this_node, h.within_bounds, h.not_before)

  -- 1 and 7 first, then the line's own
  pub by_entry : (d : Option Frame) → refusal n slots reports d ≡ on_check Err (frame_refusal n d) (checked Err (entry_checks (both_long slots reports) n) cleared)
  unfolding refusals
  by_entry d = in_two Err (entry_checks (both_long slots reports) n) (frame_refusals n d) cleared

  -- every answer of the checks is one of 1 to 8
  pub all_turn_away : (d : Option Frame) → refusals_pass turns_away (refusals n slots reports d) ≡ true
  unfolding refusals frame_refusals
  all_turn_away None = refl
  all_turn_away (Some f) = refl

module _ (n : Node) (slots reports : ℕ) (f : Frame) (h : Admitted n slots reports f) where
  abbrev beyond : List Bool
  beyond = ltb top f.header.epoch ∷ ltb top f.header.config ∷ ltb f.header.epoch f.header.config ∷ leb time_end f.header.time ∷ []

  -- the node that arrives is sound
  pub arrives : sound (arrived f.header.time f.header.epoch n) ≡ true
  unfolding is_beyond
  arrives =
      arrived_sound n h.node_sound f.header.time f.header.epoch (ltb-false f.header.time n.clock h.not_before)
      (leb-false time_end f.header.time (none 3 beyond h.within_bounds))
      (ltb-false top f.header.epoch (none 0 beyond h.within_bounds))

  -- the frame's configEpoch is not above its currentEpoch
  pub config_within : f.header.config ≤ f.header.epoch
  unfolding is_beyond
  config_within = ltb-false f.header.epoch f.header.config (none 2 beyond h.within_bounds)
