-- What a line comes to, for who proves something of every frame.
use Rattle.std.specs.Prelude.{None, Option, Some}
use mathlib.Core.Path.{◌≡◌, refl, ap, ◌∙◌}
use mathlib.Core.Bool.{true, false}
use mathlib.Core.List.{List}
use Prim.Native.Nat.{ℕ}
use lib.ListN.{length}
use Rattle.tables.specs.Checks.{checked}
use Rattle.answers.specs.declared.Answer.{Answer}
use Rattle.answers.proofs.Checks.{on_check, by_check, test_for, past}
use Rattle.state.specs.Outcomes.{Stepped}
use Rattle.state.specs.declared.Node.{Node}
use Rattle.frames.specs.Frames.{frame_of, bitmap_of}
use Rattle.frames.specs.declared.Frame.{Frame}
use Rattle.refusals.specs.Refusals.{refusals, turns_away}
use Rattle.refusals.proofs.Admitted.{Admitted, admitted, passes, all_turn_away}
use Rattle.node.specs.Step.{turned_away, taken, taken_in, on_frame}

module _ (n : Node) (slots reports line : List ℕ) where
  abbrev step_of : Option Frame → Stepped
  step_of d = checked (turned_away n slots reports) (refusals n (length slots) (length reports) d) (taken_in n slots reports (bitmap_of line) d)

  -- what holds of every refusal and of the step that takes the frame holds of the line's step
  pub by_frame : (P : Stepped → Type 0) → ((a : Answer) → turns_away a ≡ true → P (turned_away n slots reports a))
      → ((f : Frame) → frame_of line ≡ Some f → Admitted n (length slots) (length reports) f → P (taken n slots reports (bitmap_of line) f)) → P (on_frame n slots reports line)
  unfolding on_frame
  by_frame P refused through = go (frame_of line) refl
    where
      past_them : (d : Option Frame) → frame_of line ≡ d → ((a : ℕ) → test_for a (refusals n (length slots) (length reports) d) ≡ false) → P (taken_in n slots reports (bitmap_of line) d)
      past_them None e t = refused _ refl
      past_them (Some f) e t = through f e (admitted n (length slots) (length reports) f t)

      go : (d : Option Frame) → frame_of line ≡ d → P (step_of d)
      go d e = past P turns_away (turned_away n slots reports) (refusals n (length slots) (length reports) d) (taken_in n slots reports (bitmap_of line) d) (all_turn_away n (length slots) (length reports) d) refused (past_them d e)

  -- a frame that is admitted is taken
  pub when_admitted : (f : Frame) → frame_of line ≡ Some f → Admitted n (length slots) (length reports) f → on_frame n slots reports line ≡ taken n slots reports (bitmap_of line) f
  unfolding on_frame
  when_admitted f e h =
      ap step_of e
      ∙ by_check (turned_away n slots reports) (refusals n (length slots) (length reports) (Some f)) (taken n slots reports (bitmap_of line) f)
      ∙ ap (on_check (turned_away n slots reports) (taken n slots reports (bitmap_of line) f)) (passes n (length slots) (length reports) f h)
