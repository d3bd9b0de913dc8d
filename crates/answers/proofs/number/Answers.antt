-- `answers::number` meets its contract.
use Rattle.answers.proofs.number.Goals as goal

pub returns-in-Done : goal.returns-in-Done
returns-in-Done c = simp c.in-Done.is

pub returns-in-Heard : goal.returns-in-Heard
returns-in-Heard c = simp c.in-Heard.is

pub returns-in-WrongLength : goal.returns-in-WrongLength
returns-in-WrongLength c = simp c.in-WrongLength.is

pub returns-in-NotAFrame : goal.returns-in-NotAFrame
returns-in-NotAFrame c = simp c.in-NotAFrame.is

pub returns-in-UnknownNode : goal.returns-in-UnknownNode
returns-in-UnknownNode c = simp c.in-UnknownNode.is

pub returns-in-BeforeClock : goal.returns-in-BeforeClock
returns-in-BeforeClock c = simp c.in-BeforeClock.is

pub returns-in-OutOfBounds : goal.returns-in-OutOfBounds
returns-in-OutOfBounds c = simp c.in-OutOfBounds.is

pub returns-in-OwnNumber : goal.returns-in-OwnNumber
returns-in-OwnNumber c = simp c.in-OwnNumber.is

pub returns-in-Unsound : goal.returns-in-Unsound
returns-in-Unsound c = simp c.in-Unsound.is

pub returns-in-FollowsItself : goal.returns-in-FollowsItself
returns-in-FollowsItself c = simp c.in-FollowsItself.is

pub returns-in-AtTheTop : goal.returns-in-AtTheTop
returns-in-AtTheTop c = simp c.in-AtTheTop.is

pub returns-in-Granted : goal.returns-in-Granted
returns-in-Granted c = simp c.in-Granted.is

pub returns-in-NotVoting : goal.returns-in-NotVoting
returns-in-NotVoting c = simp c.in-NotVoting.is

pub returns-in-StaleEpoch : goal.returns-in-StaleEpoch
returns-in-StaleEpoch c = simp c.in-StaleEpoch.is

pub returns-in-AlreadyVoted : goal.returns-in-AlreadyVoted
returns-in-AlreadyVoted c = simp c.in-AlreadyVoted.is

pub returns-in-NoListedMaster : goal.returns-in-NoListedMaster
returns-in-NoListedMaster c = simp c.in-NoListedMaster.is

pub returns-in-MasterNotFailed : goal.returns-in-MasterNotFailed
returns-in-MasterNotFailed c = simp c.in-MasterNotFailed.is

pub returns-in-VotedLately : goal.returns-in-VotedLately
returns-in-VotedLately c = simp c.in-VotedLately.is

pub returns-in-Outdated : goal.returns-in-Outdated
returns-in-Outdated c = simp c.in-Outdated.is

pub returns-in-ClaimsNothing : goal.returns-in-ClaimsNothing
returns-in-ClaimsNothing c = simp c.in-ClaimsNothing.is

pub returns-in-MarksFull : goal.returns-in-MarksFull
returns-in-MarksFull c = simp c.in-MarksFull.is

pub returns-in-NoSuchSlot : goal.returns-in-NoSuchSlot
returns-in-NoSuchSlot c = simp c.in-NoSuchSlot.is

pub returns-in-NotMarked : goal.returns-in-NotMarked
returns-in-NotMarked c = simp c.in-NotMarked.is

pub returns-in-WrongSide : goal.returns-in-WrongSide
returns-in-WrongSide c = simp c.in-WrongSide.is

pub returns-in-NotReplica : goal.returns-in-NotReplica
returns-in-NotReplica c = simp c.in-NotReplica.is

pub returns-in-OwnMasterNotFailed : goal.returns-in-OwnMasterNotFailed
returns-in-OwnMasterNotFailed c = simp c.in-OwnMasterNotFailed.is

pub returns-in-OwnMasterEmpty : goal.returns-in-OwnMasterEmpty
returns-in-OwnMasterEmpty c = simp c.in-OwnMasterEmpty.is

pub returns-in-ElectionYoung : goal.returns-in-ElectionYoung
returns-in-ElectionYoung c = simp c.in-ElectionYoung.is

pub returns-in-Won : goal.returns-in-Won
returns-in-Won c = simp c.in-Won.is

pub returns-in-NoElection : goal.returns-in-NoElection
returns-in-NoElection c = simp c.in-NoElection.is

pub returns-in-OtherCandidate : goal.returns-in-OtherCandidate
returns-in-OtherCandidate c = simp c.in-OtherCandidate.is

pub returns-in-OtherEpoch : goal.returns-in-OtherEpoch
returns-in-OtherEpoch c = simp c.in-OtherEpoch.is

pub returns-in-NoVoter : goal.returns-in-NoVoter
returns-in-NoVoter c = simp c.in-NoVoter.is

pub returns-in-AckLate : goal.returns-in-AckLate
returns-in-AckLate c = simp c.in-AckLate.is

pub returns-in-AckRepeated : goal.returns-in-AckRepeated
returns-in-AckRepeated c = simp c.in-AckRepeated.is

pub returns-in-Listed : goal.returns-in-Listed
returns-in-Listed c = simp c.in-Listed.is

pub returns-in-ListShort : goal.returns-in-ListShort
returns-in-ListShort c = simp c.in-ListShort.is
