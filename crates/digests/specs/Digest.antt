-- Answers as one number, for callers that take no struct.
use Rattle.std.specs.Prelude.{ℕ, ◌+◌, ◌*◌, ◌%◌, None, Option, Some}
use Rattle.answers.specs.Answers.{number}
use Rattle.answers.specs.declared.Tally.{Tally}
use Rattle.state.specs.declared.Outcome.{Outcome}

abbrev pub place : Option ℕ → ℕ
place None = 0
place (Some s) = s % 65535 + 1

-- a claim's: bound, rebound and the stale slot plus one, 16 bits each from the lowest on (0 for no stale slot; every number is
-- taken modulo 2^16)
abbrev pub digest : Tally → ℕ
digest t = t.bound % 65536 + t.rebound % 65536 * 65536 + place t.stale * 4294967296

-- a call's: the answer's number, and the epochs modulo 2^16
abbrev pub outcome_digest : Outcome → ℕ
outcome_digest o = number o.answer + o.node.current % 65536 * 256 + o.node.voted % 65536 * 16777216
