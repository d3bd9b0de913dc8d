-- A run of `replay`: how it begins, and which wins it remembers.
use Rattle.std.specs.Prelude.{ℕ, ◌+◌, false, cond, replicate, set, eqb, ltb, None}
use Rattle.answers.specs.Answers.{number}
use Rattle.answers.specs.declared.Answer.{Answer}
use Rattle.answers.specs.declared.Answer.TheVariants.{Done}
use Rattle.calls.specs.declared.Call.{Call}
use Rattle.calls.specs.declared.Form.TheVariants.{Summary}
use Rattle.tellings.specs.declared.Said.{Said}
use Rattle.tellings.specs.declared.Said.TheVariants.{Nothing, Answered, Sent, Unended, Last}
use Rattle.tellings.specs.declared.Win.{Win}
use Rattle.runs.specs.declared.Run.{Run}

-- the wins that there is room for
abbrev pub win_room : ℕ
win_room = 16

abbrev pub no_win : Win
no_win = record { epoch = 0; node = 0 }

-- before the roster's line
abbrev pub nobody : Run
nobody = record { size = 0; begun = false; handed = 0; won = 0; wins = replicate win_room no_win }

-- so much of a piece was handed over
abbrev pub reached : ℕ → Run → Run
reached handed r = record { size = r.size; begun = r.begun; handed = handed; won = r.won; wins = r.wins }

-- one win more: its epoch, and the node
abbrev pub with_win : ℕ → ℕ → Run → Run
with_win epoch k r = record { size = r.size; begun = r.begun; handed = r.handed; won = r.won + 1; wins = set r.wins r.won (record { epoch = epoch; node = k }) }

-- the answer that was told; 0 where there was none
abbrev pub answer_of : Said → Answer
answer_of Nothing = Done
answer_of (Answered answer) = answer
answer_of (Sent redirect) = Done
answer_of (Unended length) = Done
answer_of (Last role slots) = Done

-- the answer 30 wins an epoch, which is not 0; a run has no more wins than there is room for
abbrev pub remembered : Answer → ℕ → ℕ → Run → Run
remembered answer epoch k r = cond (eqb (number answer) 30) (cond (eqb epoch 0) r (cond (ltb r.won win_room) (with_win epoch k r) r)) r

-- what the input's end is taken for, among the calls
abbrev pub the_end : Call
the_end = record { form = Summary; wrong = None; words = 0; numbers = replicate 64 0 }
