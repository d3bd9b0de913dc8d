-- `reports::look_at` meets its contract.
use mathlib.Core.Path.{sym}
use Rattle.state.specs.Changes.{with_records}
use Rattle.state.specs.Node.{voting_masters}
use Rattle.failure.specs.Failure.{looked_at}
use Rattle.failure.proofs.Keeps.{looked_alone}
use Rattle.state.proofs.Voting.{voting_both}
use Rattle.reports.proofs.look_at.Goals as goal

pub returns-then-is_pfail : goal.returns-then-is_pfail
unfolding looked_at with_records
returns-then-is_pfail c =
    rw (c.with_flag.ensures, c.flag_if_signalled.ensures, c.from-k.ensures, c.from.ensures, voting_both c.args.node c.args.slots.now _ _ _ c.masters-masters.ensures c.among-owners.ensures c.both-voters.ensures)

pub returns-else-is_pfail : goal.returns-else-is_pfail
returns-else-is_pfail c = sym (looked_alone (voting_masters c.args.node c.args.slots.now) c.args.reports.now c.args.subject c.args.node (cc))
