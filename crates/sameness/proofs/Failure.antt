-- Probes, ticks, reports and fail frames change a node by its state alone.
use Rattle.std.specs.Prelude.{None}
use mathlib.Core.Path.{refl, ap, fun_ext, ◌∙◌}
use mathlib.Core.List.{List}
use Prim.Native.Nat.{ℕ}
use lib.ListN.{set}
use Rattle.nodesets.specs.declared.NodeSet.{NodeSet}
use Rattle.answers.specs.declared.Answer.TheVariants.{Done}
use Rattle.state.specs.Node.{voting_masters}
use Rattle.state.specs.Changes.{with_ping, with_flag}
use Rattle.state.specs.declared.Node.{Node}
use Rattle.state.specs.declared.Role.{Role}
use Rattle.state.specs.declared.Flag.{Flag}
use Rattle.state.specs.declared.Flag.TheVariants.{Clear, Pfail, Fail}
use Rattle.state.specs.declared.Echo.{Echo}
use Rattle.state.specs.declared.Echo.TheVariants.{Ping, Pong}
use Rattle.state.specs.declared.Verdict.{Verdict}
use Rattle.state.specs.declared.Verdict.TheVariants as verdict
use Rattle.failure.specs.Failure.{report_at, stamp, recent, signals, most_signal, flag_if_signalled, looked_at}
use Rattle.probes.specs.Probes.{recovered, pong_flag, after_probe, probed, unanswered, flag_if_unanswered, suspected, all_suspected, all_looked_at, ticked}
use Rattle.reports.specs.Reports.{stored, reported, fail_flag, failed}
use Rattle.kinds.specs.Kinds.{reported_step}
use Rattle.sameness.proofs.Seen.{seen, Alike, Reads, voters_read, on, Changes, both_change, all_change, record_change, reads_alike, changes_alike}
use Rattle.sameness.proofs.Told.{Told, answered_told}

-- ---- probes

pong_read : (slots : List ℕ) (s : ℕ) (role : Role) (f : Flag) → Reads (λ n. pong_flag n slots s role f)
unfolding pong_flag recovered
pong_read slots s role Clear n = refl
pong_read slots s role Pfail n = refl
pong_read slots s role (Fail t) n = refl

probe_read : (slots : List ℕ) (s : ℕ) (echo : Echo) → Reads (λ n. after_probe n slots s echo)
unfolding after_probe
probe_read slots s Ping n = refl
probe_read slots s Pong n = fun_ext (λ r. ap (λ (f : Flag). with_ping None (with_flag f r)) (pong_read slots s r.role r.flag n))

pub probe_change : (slots : List ℕ) (s : ℕ) (echo : Echo) → Changes (λ n. probed n slots s echo)
unfolding probed
probe_change slots s echo = record_change s (λ n. after_probe n slots s echo) (probe_read slots s echo)

-- ---- the look at a node

look_change : (voters : NodeSet) (reports : List ℕ) (s : ℕ) → Changes (looked_at voters reports s)
unfolding looked_at flag_if_signalled most_signal signals recent
look_change voters reports s = record_change s (λ n r. with_flag (flag_if_signalled n voters reports s r.flag) r) (λ n. refl)

-- ---- ticks

suspect_change : (k : ℕ) → Changes (suspected k)
unfolding suspected flag_if_unanswered unanswered
suspect_change k = record_change k (λ n r. with_flag (flag_if_unanswered n k r) r) (λ n. refl)

pub tick_change : (slots reports : List ℕ) → Changes (λ n. ticked n slots reports)
unfolding ticked all_suspected all_looked_at
tick_change slots reports n =
    let voters = voting_masters n slots in
    (λ i. on (λ m. all_looked_at (voters_read slots n i) reports (all_suspected m)) (seen n))
    ∙ both_change all_suspected (all_looked_at voters reports) (λ m. all_change suspected suspect_change m.size m) (λ m. all_change (looked_at voters reports) (look_change voters reports) m.size m) n

-- ---- fail frames

pub fail_change : (s : ℕ) → Changes (λ n. failed n s)
unfolding failed
fail_change s = record_change s (λ n r. with_flag (fail_flag n.clock r.flag) r) (λ n. refl)

-- ---- reports

-- the report times after one
abbrev after : List ℕ → ℕ → ℕ → Node → List ℕ
after reports reporter s n = set reports (report_at s reporter) (stamp n.clock)

report_change : (slots reports : List ℕ) (reporter s : ℕ) → Changes (λ n. looked_at (voting_masters n slots) (after reports reporter s n) s n)
report_change slots reports reporter s n = (λ i. on (λ m. looked_at (voters_read slots n i) (after reports reporter s m) s m) (seen n)) ∙ look_change (voting_masters n slots) (after reports reporter s n) s n

module _ (a b : Node) (e : Alike a b) (slots reports : List ℕ) (reporter s : ℕ) where
  stored_told : Told (reported_step slots (stored a slots reports reporter s)) (reported_step slots (stored b slots reports reporter s))
  unfolding stored
  stored_told = record {
    answer = refl;
    node = changes_alike a b e (λ n. looked_at (voting_masters n slots) (after reports reporter s n) s n) (report_change slots reports reporter s);
    slots = refl;
    reports = reads_alike a b e (after reports reporter s) (λ n. refl);
  }

  pub reported_told : (said : Verdict) → Told (reported_step slots (reported a slots reports reporter s said)) (reported_step slots (reported b slots reports reporter s said))
  unfolding reported
  reported_told verdict.Fine = answered_told a b e slots reports Done
  reported_told verdict.Pfail = stored_told
  reported_told verdict.Fail = stored_told
