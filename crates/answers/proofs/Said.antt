-- An answer is fixed by its number and its values: it can be read off them.
use mathlib.Core.Path.{◌≡◌, refl, sym, ap, ◌∙◌}
use mathlib.Core.Bool.{cond}
use mathlib.Core.List.{List, [], ◌∷◌}
use Prim.Native.Nat.{ℕ}
use lib.Dec.{eqb}
use lib.ListN.{get_or}
use Rattle.answers.specs.Answers.{Values, no_values, counts, at_slot, passed, ranges, Said, said, SaidSettles}
use Rattle.answers.specs.declared.Answer.{Answer}
use Rattle.answers.specs.declared.Answer.TheVariants as answer

-- the answers without values, each at its number; a number that no such answer has stands as Done
abbrev plain_answers : List Answer
plain_answers =
    answer.Done
    ∷ answer.WrongLength
    ∷ answer.NotAFrame
    ∷ answer.UnknownNode
    ∷ answer.BeforeClock
    ∷ answer.OutOfBounds
    ∷ answer.OwnNumber
    ∷ answer.Unsound
    ∷ answer.FollowsItself
    ∷ answer.AtTheTop
    ∷ answer.Granted
    ∷ answer.NotVoting
    ∷ answer.StaleEpoch
    ∷ answer.AlreadyVoted
    ∷ answer.NoListedMaster
    ∷ answer.MasterNotFailed
    ∷ answer.VotedLately
    ∷ answer.Done
    ∷ answer.ClaimsNothing
    ∷ answer.Done
    ∷ answer.MarksFull
    ∷ answer.NoSuchSlot
    ∷ answer.NotMarked
    ∷ answer.WrongSide
    ∷ answer.NotReplica
    ∷ answer.OwnMasterNotFailed
    ∷ answer.OwnMasterEmpty
    ∷ answer.Done
    ∷ answer.ElectionYoung
    ∷ answer.Done
    ∷ answer.Done
    ∷ answer.NoElection
    ∷ answer.OtherCandidate
    ∷ answer.OtherEpoch
    ∷ answer.NoVoter
    ∷ answer.AckLate
    ∷ answer.AckRepeated
    ∷ []

abbrev answer_of : Values → ℕ → Answer
answer_of no_values k = get_or plain_answers k answer.Done
answer_of (counts bound rebound stale) k = answer.Heard (record { bound = bound; rebound = rebound; stale = stale })
answer_of (at_slot s) k = answer.Outdated s
answer_of (passed count) k = answer.Won count
answer_of (ranges count) k = cond (eqb k 0) (answer.Listed count) (answer.ListShort count)

abbrev read : Said → Answer
read s = answer_of s.values s.number

read_said : (a : Answer) → read (said a) ≡ a
read_said answer.Done = refl
read_said (answer.Heard tally) = refl
read_said answer.WrongLength = refl
read_said answer.NotAFrame = refl
read_said answer.UnknownNode = refl
read_said answer.BeforeClock = refl
read_said answer.OutOfBounds = refl
read_said answer.OwnNumber = refl
read_said answer.Unsound = refl
read_said answer.FollowsItself = refl
read_said answer.AtTheTop = refl
read_said answer.Granted = refl
read_said answer.NotVoting = refl
read_said answer.StaleEpoch = refl
read_said answer.AlreadyVoted = refl
read_said answer.NoListedMaster = refl
read_said answer.MasterNotFailed = refl
read_said answer.VotedLately = refl
read_said (answer.Outdated s) = refl
read_said answer.ClaimsNothing = refl
read_said answer.MarksFull = refl
read_said answer.NoSuchSlot = refl
read_said answer.NotMarked = refl
read_said answer.WrongSide = refl
read_said answer.NotReplica = refl
read_said answer.OwnMasterNotFailed = refl
read_said answer.OwnMasterEmpty = refl
read_said answer.ElectionYoung = refl
read_said (answer.Won count) = refl
read_said answer.NoElection = refl
read_said answer.OtherCandidate = refl
read_said answer.OtherEpoch = refl
read_said answer.NoVoter = refl
read_said answer.AckLate = refl
read_said answer.AckRepeated = refl
read_said (answer.Listed count) = refl
read_said (answer.ListShort count) = refl

pub said_settles : SaidSettles
said_settles a b e = sym (read_said a) ∙ ap read e ∙ read_said b
