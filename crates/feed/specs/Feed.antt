-- A feed of lines that arrives in pieces: document 02, [9]. What a call takes of its piece, what it answers, and what it leaves.
use Rattle.std.specs.Prelude.{ℕ, cond, List, [], length, None, Option, Some}
use Rattle.tables.specs.Checks.{checked}
use Rattle.answers.specs.declared.Answer.TheVariants.{NotAFrame}
use Rattle.state.specs.Outcomes.{Stepped}
use Rattle.state.specs.declared.Node.{Node}
use Rattle.entry.specs.Entry.{entry_checks}
use Rattle.refusals.specs.Refusals.{both_long}
use Rattle.node.specs.Step.{turned_away, on_frame}
use Rattle.scraps.specs.Scraps.{Line, short, long, part_of, Taken, takes}
use Rattle.scraps.specs.declared.Kept.{Kept}
use Rattle.answers.specs.declared.Answer.{Answer}
use Rattle.feed.specs.declared.Fed.{Fed}

-- ---- a line at its newline

-- as the node answers it; one that is too long is answered 2, after 1 and 7
abbrev pub on_line : Node → List ℕ → List ℕ → Line → Stepped
on_line n slots reports (short line) = on_frame n slots reports line
on_line n slots reports long = checked (turned_away n slots reports) (entry_checks (both_long (length slots) (length reports)) n) (turned_away n slots reports NotAFrame)

-- ---- a call

-- the node, both tables, and the line that has not ended yet
pub record Station : Type 0 where
  pub node : Node
  pub slots : List ℕ
  pub reports : List ℕ
  pub line : Line

abbrev pub with_line : Line → Station → Station
with_line l s = record { node = s.node; slots = s.slots; reports = s.reports; line = l }

-- the answer if a line ended, what is left, and how many bytes of the piece were used
pub record Called : Type 0 where
  pub told : Option Answer
  pub after : Station
  pub used : ℕ

-- the line goes on: there is no answer, and nothing else is looked at
abbrev pub continues : Station → Line → ℕ → Called
continues s line used = record { told = None; after = with_line line s; used = used }

-- it has ended: it is answered, and used up whatever the answer is
abbrev pub ends : Stepped → ℕ → Called
ends x used = record { told = Some x.outcome.answer; after = record { node = x.outcome.node; slots = x.slots; reports = x.reports; line = short [] }; used = used }

-- by what is taken of the piece
abbrev pub after : Station → Taken → Called
after s t = cond t.ended (ends (on_line s.node s.slots s.reports t.line) t.used) (continues s t.line t.used)

unfoldable pub feeds : Station → List ℕ → Called
feeds s piece = after s (takes s.line piece)

-- ---- what is handed in, and what the function gives back, in these words
abbrev pub station : Node → List ℕ → List ℕ → Kept → Station
station n slots reports k = record { node = n; slots = slots; reports = reports; line = part_of k }

abbrev pub fed_as : Fed → List ℕ → List ℕ → Called
fed_as r slots reports = record { told = r.told; after = station r.node slots reports r.kept; used = r.used }
