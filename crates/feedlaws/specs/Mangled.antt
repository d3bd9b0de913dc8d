-- A line that is mangled on its way: document 02, [9].
use Rattle.std.specs.Prelude.{◌≡◌, List, [], ◌∷◌, ◌++◌, ℕ, T, replicate, set}
use Rattle.tables.specs.Lists.{newline}
use Rattle.tables.specs.Sizes.{slot_count, report_count, unowned}
use Rattle.answers.specs.declared.Answer.{Answer}
use Rattle.answers.specs.declared.Answer.TheVariants.{Done, BeforeClock}
use Rattle.frames.specs.Lines.{encode}
use Rattle.frames.specs.declared.Kind.TheVariants.{Fail}
use Rattle.refusals.specs.Refusals.{turns_away}
use Rattle.cases.specs.Cases.{cases_node}
use Rattle.scraps.specs.Scraps.{short, grown}
use Rattle.feed.specs.Feed.{Station, with_line, on_line}
use Rattle.streams.specs.Streams.{following, stream, NoNewline, Fresh, whole}

-- ---- a line that is refused by 1 to 8 is as if it had not been sent

-- a feed with a line in it as it arrived, whatever was sent: it begins behind `before`, and no newline was made or lost in it
module _ (s : Station) (before line rest : List ℕ) where
  -- how things stand where it begins, and its answer
  abbrev pub at : Station
  at = (stream s before).after

  abbrev pub answer : Answer
  answer = (whole at line).outcome.answer

  pub record AsIfNotSent : Type 0 where
    -- its own answer stands between those of the lines before it and those of the lines behind it
    pub with_it : (stream s (before ++ (line ++ (newline ∷ rest)))).answers ≡ (stream s before).answers ++ (answer ∷ (stream at rest).answers)
    -- which are the answers of the feed without it
    pub without : (stream s (before ++ rest)).answers ≡ (stream s before).answers ++ (stream at rest).answers
    -- and both leave the same node, tables and line
    pub end : (stream s (before ++ (line ++ (newline ∷ rest)))).after ≡ (stream s (before ++ rest)).after

pub record RefusedLines : Type 0 where
  pub inside : (s : Station) (before line rest : List ℕ) → Fresh (at s before line rest) → NoNewline line → T (turns_away (answer s before line rest)) → AsIfNotSent s before line rest
  -- of a line that was begun before the feed, what was kept of it goes with it
  pub begun : (s : Station) (line rest : List ℕ) → NoNewline line
      → let a = (on_line s.node s.slots s.reports (grown s.line line)).outcome.answer in T (turns_away a)
      → stream s (line ++ (newline ∷ rest)) ≡ following (a ∷ []) (stream (with_line (short []) s) rest)

-- ---- a line that still reads as a good frame is taken as one: nothing in it tells that it was changed

-- the node of the cases, with fresh tables
abbrev pub start : Station
start = record { node = cases_node; slots = replicate slot_count unowned; reports = replicate report_count 0; line = short [] }

-- node 2 says at that time that node 0 is FAIL
abbrev pub fails : ℕ → List ℕ
fails time = encode (record { header = record { time = time; epoch = 0; config = 0 }; kind = Fail 2 0 }) []

-- two lines
abbrev pub both : List ℕ → List ℕ → List ℕ
both first second = first ++ (newline ∷ (second ++ (newline ∷ [])))

pub record StillGood : Type 0 where
  -- of 100 ms and of 200 ms
  pub sent : (stream start (both (fails 100) (fails 200))).answers ≡ Done ∷ Done ∷ []
  -- one digit of the first is changed, a 0 into a 2, and it says 612 ms
  pub changed : set (fails 100) 21 0x32 ≡ fails 612
  -- it is taken at its word, and the second comes from before the clock then
  pub taken : (stream start (both (fails 612) (fails 200))).answers ≡ Done ∷ BeforeClock ∷ []
