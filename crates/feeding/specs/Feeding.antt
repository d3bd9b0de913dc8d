-- A whole stream of lines fed to a node, for callers that time it: in one number, and both tables.
use Rattle.std.specs.Prelude.{ℕ, ◌+◌, ◌*◌, ◌%◌}
use mathlib.Core.List.{List, [], foldl}
use Rattle.answers.specs.Answers.{number}
use Rattle.answers.specs.declared.Answer.{Answer}
use Rattle.state.specs.declared.Node.{Node}
use Rattle.scraps.specs.Scraps.{short}
use Rattle.feed.specs.Feed.{Station}
use Rattle.streams.specs.Streams.{Heard}

-- before the first byte nothing is kept
abbrev pub begun : Node → List ℕ → List ℕ → Station
begun n slots reports = record { node = n; slots = slots; reports = reports; line = short [] }

-- an answer goes behind those before it, which are taken modulo 2^24
abbrev pub noted : ℕ → Answer → ℕ
noted notes a = notes % 16777216 * 131 + number a + 1

-- all answers modulo 2^32, and the epochs after them modulo 2^16
pub record Digested : Type 0 where
  pub digest : ℕ
  pub slots : List ℕ
  pub reports : List ℕ

abbrev pub digested : Heard → Digested
digested h = record {
  digest = foldl noted 0 h.answers % 4294967296 + h.after.node.current % 65536 * 4294967296 + h.after.node.voted % 65536 * 281474976710656;
  slots = h.after.slots;
  reports = h.after.reports;
}
