-- What reports and fail frames leave as it was.
use mathlib.Core.Path.{refl}
use mathlib.Core.List.{List}
use Prim.Native.Nat.{ℕ}
use Rattle.state.specs.Node.{record_at, voting_masters}
use Rattle.state.specs.Changes.{with_flag}
use Rattle.state.specs.declared.Node.{Node}
use Rattle.state.specs.declared.Verdict.{Verdict}
use Rattle.state.specs.declared.Verdict.TheVariants as verdict
use Rattle.failure.specs.Failure.{report_at, stamp}
use Rattle.failure.specs.Keeps.{Kept, FlagsOnly, OthersKept, EntriesKept}
use Rattle.failure.proofs.Keeps.{flags_same, flags_kept, flag_set, others_same, others_one, entry_set, looked_flags, looked_others}
use Rattle.reports.specs.Reports.{stored, reported, fail_flag, failed}

pub reported_node : (n : Node) (slots reports : List ℕ) (reporter s : ℕ) (v : Verdict) → FlagsOnly n (reported n slots reports reporter s v).node × OthersKept s n (reported n slots reports reporter s v).node
unfolding reported stored
reported_node n slots reports reporter s verdict.Fine = (flags_same n, others_same s n)
reported_node n slots reports reporter s verdict.Pfail = (looked_flags (voting_masters n slots) _ s n, looked_others (voting_masters n slots) _ s n)
reported_node n slots reports reporter s verdict.Fail = (looked_flags (voting_masters n slots) _ s n, looked_others (voting_masters n slots) _ s n)

pub reported_entry : (n : Node) (slots reports : List ℕ) (reporter s : ℕ) (v : Verdict) → EntriesKept (report_at s reporter) reports (reported n slots reports reporter s v).reports
unfolding reported stored
reported_entry n slots reports reporter s verdict.Fine = record { long = refl; others = λ j d. refl }
reported_entry n slots reports reporter s verdict.Pfail = entry_set reports (report_at s reporter) (stamp n.clock)
reported_entry n slots reports reporter s verdict.Fail = entry_set reports (report_at s reporter) (stamp n.clock)

pub failed_flags : (n : Node) (s : ℕ) → FlagsOnly n (failed n s)
unfolding failed
failed_flags n s = flag_set n s (fail_flag n.clock (record_at n s).flag)

pub failed_others : (n : Node) (s : ℕ) → OthersKept s n (failed n s)
unfolding failed
failed_others n s = others_one n s (with_flag (fail_flag n.clock (record_at n s).flag) (record_at n s))

pub reported_kept : (n : Node) (slots reports : List ℕ) (reporter s : ℕ) (v : Verdict) → Kept n (reported n slots reports reporter s v).node
reported_kept n slots reports reporter s v = flags_kept n (reported n slots reports reporter s v).node (reported_node n slots reports reporter s v).0

pub failed_kept : (n : Node) (s : ℕ) → Kept n (failed n s)
failed_kept n s = flags_kept n (failed n s) (failed_flags n s)
