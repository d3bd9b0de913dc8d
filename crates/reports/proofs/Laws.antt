-- What holds of reports and of fail frames, put together.
use mathlib.Core.List.{List}
use Prim.Native.Nat.{ℕ}
use Rattle.state.specs.declared.Node.{Node}
use Rattle.state.specs.declared.Verdict.{Verdict}
use Rattle.reports.specs.Keeps.{ReportLaws, FailLaws}
use Rattle.reports.proofs.Keeps.{reported_node, reported_entry, failed_flags, failed_others}
use Rattle.reports.proofs.Sound.{reported_sound, failed_sound}

pub report_laws : (n : Node) (slots reports : List ℕ) (reporter s : ℕ) (verdict : Verdict) → ReportLaws n slots reports reporter s verdict
report_laws n slots reports reporter s verdict = record {
  flags = (reported_node n slots reports reporter s verdict).0;
  others = (reported_node n slots reports reporter s verdict).1;
  entry = reported_entry n slots reports reporter s verdict;
  stays_sound = λ h. reported_sound n h slots reports reporter s verdict;
}

pub fail_laws : (n : Node) (s : ℕ) → FailLaws n s
fail_laws n s = record { flags = failed_flags n s; others = failed_others n s; stays_sound = λ h. failed_sound n h s }
