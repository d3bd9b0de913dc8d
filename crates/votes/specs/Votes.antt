-- A vote request, past the refusals: document 01, "Vote request", and document 02, [3] and [10]. Now is the clock.
use Rattle.std.specs.Prelude.{ℕ, Bool, false, not, List, [], ◌∷◌, ltb, leb, None, Option, Some}
use Rattle.tables.specs.Checks.{checked}
use Rattle.tables.specs.Lists.{first_at}
use Rattle.ages.specs.Ages.{age, under_twice}
use Rattle.claims.specs.Claims.{empty, newer_owner}
use Rattle.answers.specs.declared.Answer.{Answer}
use Rattle.answers.specs.declared.Answer.TheVariants.{Granted, NotVoting, StaleEpoch, AlreadyVoted, NoListedMaster, ClaimsNothing, MasterNotFailed, VotedLately, Outdated}
use Rattle.state.specs.Node.{record_at, master_at, voting_master, is_fail, role_at, followed}
use Rattle.state.specs.Changes.{with_vote, with_voted, on_record}
use Rattle.state.specs.Outcomes.{answered}
use Rattle.state.specs.declared.Node.{Node}
use Rattle.state.specs.declared.Role.{Role}
use Rattle.state.specs.declared.Role.TheVariants.{Master, Replica}
use Rattle.state.specs.declared.Outcome.{Outcome}

-- 14: the replica of a listed master
abbrev pub follows_master : Node → Role → Bool
follows_master n Master = false
follows_master n (Replica m) = master_at n m

-- 16: less than 2T old
abbrev pub lately : Node → Option ℕ → Bool
lately n None = false
lately n (Some t) = under_twice n.timeout (age n.clock t)

-- 11 to 14, 18, 15 and 16, in that order, by the slot table lent and for a candidate of that role
abbrev pub request_checks : Node → List ℕ → Role → List ℕ → ℕ → List (Bool × Answer)
request_checks n slots role bitmap epoch =
    (not (voting_master n slots n.me), NotVoting)
    ∷ (ltb epoch n.current, StaleEpoch)
    ∷ (leb epoch n.voted, AlreadyVoted)
    ∷ (not (follows_master n role), NoListedMaster)
    ∷ (empty bitmap, ClaimsNothing)
    ∷ (not (is_fail (record_at n (followed role)).flag), MasterNotFailed)
    ∷ (lately n (record_at n (followed role)).vote, VotedLately)
    ∷ []

-- 17: a claimed slot has an owner, anyone in the roster, with a configEpoch above the request's
abbrev pub newer : Node → List ℕ → ℕ → ℕ → ℕ → Bool
newer n bitmap config = newer_owner n.size (λ o. (record_at n o).config) bitmap config

-- 10: lastVoteEpoch is the epoch, and the vote time of the candidate's master is now
unfoldable pub granted : ℕ → ℕ → Node → Node
granted m epoch n = with_voted epoch (on_record m (with_vote (Some n.clock)) n)

-- 17 with the lowest such slot, else 10
abbrev pub by_owners : Node → ℕ → ℕ → Option ℕ → Outcome
by_owners n m epoch (Some slot) = answered n (Outdated slot)
by_owners n m epoch None = answered (granted m epoch n) Granted

unfoldable pub requested : Node → List ℕ → List ℕ → ℕ → ℕ → ℕ → Outcome
requested n slots bitmap candidate epoch config =
    let role = role_at n candidate in
    checked (answered n) (request_checks n slots role bitmap epoch) (by_owners n (followed role) epoch (first_at (newer n bitmap config) slots))
