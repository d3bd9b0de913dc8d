-- Every answer but a heartbeat's says nothing.
use mathlib.Core.Path.{◌≡◌, refl}
use mathlib.Core.List.{List, [], ◌∷◌}
use Prim.Native.Nat.{ℕ, zero, suc}
use types.Run.{OneOf, miss}
use denote.Enum.Declared.{tag_of}
use Rattle.answers.specs.contracts.Answer.{the_type}
use Rattle.answers.specs.declared.Answer.{Answer}
use Rattle.answers.specs.declared.Answer.TheVariants as answer
use Rattle.engines.specs.Engines.{answer_digest}

-- their places among the answers: all but the second
unfoldable pub from : ℕ → ℕ → List ℕ
from k zero = []
from k (suc n) = k ∷ from (suc k) n

abbrev pub others : List ℕ
others = 0 ∷ from 2 35

pub says_nothing : (a : Answer) → OneOf others (tag_of the_type a) → 0 ≡ answer_digest a
unfolding from
says_nothing answer.Done o = refl
says_nothing (answer.Heard tally) o = absurd (miss others 1 tt o)
says_nothing answer.WrongLength o = refl
says_nothing answer.NotAFrame o = refl
says_nothing answer.UnknownNode o = refl
says_nothing answer.BeforeClock o = refl
says_nothing answer.OutOfBounds o = refl
says_nothing answer.OwnNumber o = refl
says_nothing answer.Unsound o = refl
says_nothing answer.FollowsItself o = refl
says_nothing answer.AtTheTop o = refl
says_nothing answer.Granted o = refl
says_nothing answer.NotVoting o = refl
says_nothing answer.StaleEpoch o = refl
says_nothing answer.AlreadyVoted o = refl
says_nothing answer.NoListedMaster o = refl
says_nothing answer.MasterNotFailed o = refl
says_nothing answer.VotedLately o = refl
says_nothing (answer.Outdated s) o = refl
says_nothing answer.ClaimsNothing o = refl
says_nothing answer.MarksFull o = refl
says_nothing answer.NoSuchSlot o = refl
says_nothing answer.NotMarked o = refl
says_nothing answer.WrongSide o = refl
says_nothing answer.NotReplica o = refl
says_nothing answer.OwnMasterNotFailed o = refl
says_nothing answer.OwnMasterEmpty o = refl
says_nothing answer.ElectionYoung o = refl
says_nothing (answer.Won count) o = refl
says_nothing answer.NoElection o = refl
says_nothing answer.OtherCandidate o = refl
says_nothing answer.OtherEpoch o = refl
says_nothing answer.NoVoter o = refl
says_nothing answer.AckLate o = refl
says_nothing answer.AckRepeated o = refl
says_nothing (answer.Listed count) o = refl
says_nothing (answer.ListShort count) o = refl
