-- Reports and fail frames: document 01, "Report, fail", and document 02, [3]. Each definition takes the node as it is past the
-- refusals: "now" is its clock, and s is the subject's number.
use Rattle.std.specs.Prelude.{ℕ, List, set}
use Rattle.state.specs.Node.{voting_masters}
use Rattle.state.specs.Changes.{with_flag, on_record}
use Rattle.state.specs.Outcomes.{Reported}
use Rattle.state.specs.declared.Node.{Node}
use Rattle.state.specs.declared.Flag.{Flag}
use Rattle.state.specs.declared.Flag.TheVariants.{Clear, Pfail, Fail}
use Rattle.state.specs.declared.Verdict.{Verdict}
use Rattle.state.specs.declared.Verdict.TheVariants as verdict
use Rattle.failure.specs.Failure.{report_at, stamp, looked_at}

-- a report is stored, and its subject looked at
unfoldable pub stored : Node → List ℕ → List ℕ → ℕ → ℕ → Reported
stored n slots reports reporter s =
    let after = set reports (report_at s reporter) (stamp n.clock) in
    record { node = looked_at (voting_masters n slots) after s n; reports = after }

-- verdicts 1 and 2 store the time; 0 stores nothing, clears nothing and starts no look
unfoldable pub reported : Node → List ℕ → List ℕ → ℕ → ℕ → Verdict → Reported
reported n slots reports reporter s verdict.Fine = record { node = n; reports = reports }
reported n slots reports reporter s verdict.Pfail = stored n slots reports reporter s
reported n slots reports reporter s verdict.Fail = stored n slots reports reporter s

-- FAIL at once, from now on; a node already FAIL keeps its time
abbrev pub fail_flag : ℕ → Flag → Flag
fail_flag now Clear = Fail now
fail_flag now Pfail = Fail now
fail_flag now (Fail t) = Fail t

-- a fail frame
unfoldable pub failed : Node → ℕ → Node
failed n s = on_record s (λ r. with_flag (fail_flag n.clock r.flag) r) n
