-- `openings::opening` meets its contract.
use Rattle.state.proofs.Voting.{voting_both}
use Rattle.openings.specs.Openings.{opening}
use Rattle.openings.proofs.opening.Goals as goal

pub returns : goal.returns
unfolding opening
returns c =
    rw (c.with_election.ensures, c.with_current-next.ensures, c.none-heard.ensures, voting_both c.args.node c.args.slots.now _ _ _ c.masters-masters.ensures c.among-owners.ensures c.both-voters.ensures)
