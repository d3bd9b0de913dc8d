-- Reports and fail frames keep a sound state sound. A fail frame is never about this node itself (refusal 6).
use mathlib.Core.Path.{◌≡◌}
use mathlib.Core.Bool.{true}
use mathlib.Core.List.{List}
use Prim.Native.Nat.{ℕ}
use Rattle.state.specs.Node.{record_at, voting_masters}
use Rattle.state.specs.declared.Node.{Node}
use Rattle.state.specs.declared.Flag.{Flag}
use Rattle.state.specs.declared.Flag.TheVariants.{Clear, Pfail, Fail}
use Rattle.state.specs.declared.Verdict.{Verdict}
use Rattle.state.specs.declared.Verdict.TheVariants as verdict
use Rattle.soundness.specs.Sound.{sound, flag_sound}
use Rattle.soundness.proofs.Facts.{flag_is_sound}
use Rattle.failure.proofs.Sound.{now_sound, flagged_sound, looked_sound}
use Rattle.reports.specs.Reports.{stored, reported, fail_flag, failed}

fail_sound : (clock : ℕ) (f : Flag) → flag_sound clock f ≡ true → flag_sound clock (fail_flag clock f) ≡ true
fail_sound clock Clear h = now_sound clock
fail_sound clock Pfail h = now_sound clock
fail_sound clock (Fail t) h = h

module _ (n : Node) (h : sound n ≡ true) where
  pub failed_sound : (s : ℕ) → (s ≡ n.me → ⊥) → sound (failed n s) ≡ true
  unfolding failed
  failed_sound s d = let f = (record_at n s).flag in flagged_sound n h s (fail_flag n.clock f) (λ l. fail_sound n.clock f (flag_is_sound n h s l)) d

  pub reported_sound : (slots reports : List ℕ) (reporter s : ℕ) (v : Verdict) → sound (reported n slots reports reporter s v).node ≡ true
  unfolding reported stored
  reported_sound slots reports reporter s verdict.Fine = h
  reported_sound slots reports reporter s verdict.Pfail = looked_sound n h (voting_masters n slots) _ s
  reported_sound slots reports reporter s verdict.Fail = looked_sound n h (voting_masters n slots) _ s
