-- What documents 01 and 02 give each answer: its number, and the values beside it.
use Rattle.std.specs.Prelude.{ℕ, ◌≡◌, Option}
use Rattle.answers.specs.declared.Answer.{Answer}
use Rattle.answers.specs.declared.Answer.TheVariants.{
  Done,
  Heard,
  WrongLength,
  NotAFrame,
  UnknownNode,
  BeforeClock,
  OutOfBounds,
  OwnNumber,
  Unsound,
  FollowsItself,
  AtTheTop,
  Granted,
  NotVoting,
  StaleEpoch,
  AlreadyVoted,
  NoListedMaster,
  MasterNotFailed,
  VotedLately,
  Outdated,
  ClaimsNothing,
  MarksFull,
  NoSuchSlot,
  NotMarked,
  WrongSide,
  NotReplica,
  OwnMasterNotFailed,
  OwnMasterEmpty,
  ElectionYoung,
  Won,
  NoElection,
  OtherCandidate,
  OtherEpoch,
  NoVoter,
  AckLate,
  AckRepeated,
  Listed,
  ListShort,
}

-- beside the 0 of a heartbeat: how many slots were newly bound, how many rebound, and the lowest slot, if any, at which the
-- sender is stale; beside 17 the lowest slot that the vote is refused for; beside 30 how many slots passed to this node; beside
-- the 0 of a listing how many ranges there are, beside 40 how many the list has no room for
pub data Values : Type 0 where
  no_values : Values
  counts : (bound rebound : ℕ) (stale : Option ℕ) → Values
  at_slot : ℕ → Values
  passed : ℕ → Values
  ranges : ℕ → Values

pub record Said : Type 0 where
  pub number : ℕ
  pub values : Values

-- a number with no values
abbrev pub plain : ℕ → Said
plain k = record { number = k; values = no_values }

abbrev pub said : Answer → Said
said Done = plain 0
said (Heard tally) = record { number = 0; values = counts tally.bound tally.rebound tally.stale }
said WrongLength = plain 1
said NotAFrame = plain 2
said UnknownNode = plain 3
said BeforeClock = plain 4
said OutOfBounds = plain 5
said OwnNumber = plain 6
said Unsound = plain 7
said FollowsItself = plain 8
said AtTheTop = plain 9
said Granted = plain 10
said NotVoting = plain 11
said StaleEpoch = plain 12
said AlreadyVoted = plain 13
said NoListedMaster = plain 14
said MasterNotFailed = plain 15
said VotedLately = plain 16
said (Outdated s) = record { number = 17; values = at_slot s }
said ClaimsNothing = plain 18
said MarksFull = plain 20
said NoSuchSlot = plain 21
said NotMarked = plain 22
said WrongSide = plain 23
said NotReplica = plain 24
said OwnMasterNotFailed = plain 25
said OwnMasterEmpty = plain 26
said ElectionYoung = plain 28
said (Won count) = record { number = 30; values = passed count }
said NoElection = plain 31
said OtherCandidate = plain 32
said OtherEpoch = plain 33
said NoVoter = plain 34
said AckLate = plain 35
said AckRepeated = plain 36
said (Listed count) = record { number = 0; values = ranges count }
said (ListShort count) = record { number = 40; values = ranges count }

abbrev pub number : Answer → ℕ
number a = (said a).number

-- the number and the values fix the case, so a promise in these words is one about the code's own answer
abbrev pub SaidSettles : Type 0
SaidSettles = (a b : Answer) → said a ≡ said b → a ≡ b
