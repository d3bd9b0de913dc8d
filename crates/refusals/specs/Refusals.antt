-- What a frame is turned away for: document 01, "What a frame is answered", the checks 1 to 8.
use Rattle.std.specs.Prelude.{ℕ, Bool, true, List, [], ◌∷◌, ◌++◌, eqb, ltb, leb, Err, None, Option, Some}
use Rattle.tables.specs.Sizes.{slot_count, report_count, top, time_end}
use Rattle.tables.specs.Checks.{checked, all_of, any_of}
use Rattle.answers.specs.Answers.{number}
use Rattle.answers.specs.declared.Answer.{Answer}
use Rattle.answers.specs.declared.Answer.TheVariants.{UnknownNode, FollowsItself, OwnNumber, OutOfBounds, BeforeClock}
use Rattle.answers.specs.declared.Answer.TheVariants as answer
use Rattle.state.specs.declared.Node.{Node}
use Rattle.entry.specs.Entry.{entry_checks}
use Rattle.frames.specs.declared.Header.{Header}
use Rattle.frames.specs.declared.Kind.{Kind}
use Rattle.frames.specs.declared.Frame.{Frame}
use Rattle.answers.specs.Refusing.{Check, cleared}
use Rattle.naming.specs.Naming.{named, some, same}

-- 3: a node number not in the roster
abbrev pub is_unlisted : ℕ → Kind → Bool
is_unlisted size kind = some (leb size) (named kind).listed

-- 8: a heartbeat's replica follows itself
abbrev pub follows_itself : Kind → Bool
follows_itself kind = same (named kind).follower

-- 6: sender, reporter, subject, candidate of kind 4 or voter is this node, or a reporter names itself
abbrev pub names_this_node : ℕ → Kind → Bool
names_this_node me kind = any_of (some (eqb me) (named kind).others ∷ same (named kind).reporter ∷ [])

-- 5: an epoch above the top, the configEpoch above the frame's own currentEpoch, or a time not below 2^48
unfoldable pub is_beyond : Header → Bool
is_beyond h = any_of (ltb top h.epoch ∷ ltb top h.config ∷ ltb h.epoch h.config ∷ leb time_end h.time ∷ [])

-- The table of 01. What is asked of the line itself, 2 first:
unfoldable pub frame_refusals : Node → Option Frame → List (Bool × Answer)
frame_refusals n None = (true, answer.NotAFrame) ∷ []
frame_refusals n (Some f) =
    (is_unlisted n.size f.kind, UnknownNode)
    ∷ (follows_itself f.kind, FollowsItself)
    ∷ (names_this_node n.me f.kind, OwnNumber)
    ∷ (is_beyond f.header, OutOfBounds)
    ∷ (ltb f.header.time n.clock, BeforeClock)
    ∷ []

-- both tables lent have their lengths
abbrev pub both_long : ℕ → ℕ → Bool
both_long slots reports = all_of (eqb slots slot_count ∷ eqb reports report_count ∷ [])

-- and before that 1 and 7, by the lengths of the two tables lent
unfoldable pub refusals : Node → ℕ → ℕ → Option Frame → List (Bool × Answer)
refusals n slots reports d = entry_checks (both_long slots reports) n ++ frame_refusals n d

-- the answers that turn a call away: 1 to 8
abbrev pub turns_away : Answer → Bool
turns_away a = all_of (leb 1 (number a) ∷ leb (number a) 8 ∷ [])

-- the first check that applies
abbrev pub frame_refusal : Node → Option Frame → Check
frame_refusal n d = checked Err (frame_refusals n d) cleared

abbrev pub refusal : Node → ℕ → ℕ → Option Frame → Check
refusal n slots reports d = checked Err (refusals n slots reports d) cleared
