-- What reports and fail frames change, what they leave as it was, and that a sound state stays sound.
use Rattle.std.specs.Prelude.{◌≡◌, true, List, ℕ}
use Rattle.state.specs.declared.Node.{Node}
use Rattle.state.specs.declared.Verdict.{Verdict}
use Rattle.soundness.specs.Sound.{sound}
use Rattle.failure.specs.Failure.{report_at}
use Rattle.failure.specs.Keeps.{FlagsOnly, OthersKept, EntriesKept}
use Rattle.reports.specs.Reports.{reported, failed}

-- a report about s
pub record ReportLaws (n : Node) (slots reports : List ℕ) (reporter s : ℕ) (verdict : Verdict) : Type 0 where
  -- of the node nothing but the subject's flag changes
  pub flags : FlagsOnly n (reported n slots reports reporter s verdict).node
  pub others : OthersKept s n (reported n slots reports reporter s verdict).node
  -- of the report times none but this reporter's about the subject
  pub entry : EntriesKept (report_at s reporter) reports (reported n slots reports reporter s verdict).reports
  -- a sound state stays sound
  pub stays_sound : sound n ≡ true → sound (reported n slots reports reporter s verdict).node ≡ true

-- a fail frame about s
pub record FailLaws (n : Node) (s : ℕ) : Type 0 where
  -- nothing but the subject's flag changes
  pub flags : FlagsOnly n (failed n s)
  pub others : OthersKept s n (failed n s)
  -- a sound state stays sound; past check 6 the subject is another node
  pub stays_sound : sound n ≡ true → (s ≡ n.me → ⊥) → sound (failed n s) ≡ true
