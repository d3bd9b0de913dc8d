-- A feed's lines among the calls of demand 3: document 02, [9], and document 01, "The lists of demand 3".
use Rattle.std.specs.Prelude.{◌≡◌, true, cond, ℕ, eqb}
use mathlib.Core.List.{List, [], ◌∷◌, ◌++◌, map, flatten}
use Rattle.tables.specs.Lists.{newline}
use Rattle.answers.specs.declared.Answer.{Answer}
use Rattle.state.specs.declared.Node.{Node}
use Rattle.soundness.specs.Sound.{sound}
use Rattle.node.specs.Calls.{frame, outcome}
use Rattle.scraps.specs.Scraps.{Line, short, long}
use Rattle.feed.specs.Feed.{Station}
use Rattle.safety.specs.Demand3.{Roster, Made, state_of}
use Rattle.monotone.specs.Runs.{World, after, run}
use Rattle.sameness.specs.Sameness.{ActAlike}
use Rattle.streams.specs.Streams.{Heard, on_byte, stream, in_pieces}

-- ---- a feed is a list of calls

-- the frame that a line counts as: itself, or in the place of one that is too long an empty one, which is answered alike
abbrev pub frame_for : Line → List ℕ
frame_for (short line) = line
frame_for long = []

-- it is made on node v, with the tables as they stand
abbrev pub call_of : ℕ → Station → Made
call_of v s = record { on = v; call = frame (frame_for s.line); lent = record { slots = s.slots; reports = s.reports } }

-- by a newline; any other byte makes none
abbrev pub made : ℕ → Station → ℕ → List Made
made v s b = cond (eqb b newline) (call_of v s ∷ []) []

-- those of a whole feed, the latest first
unfoldable pub calls : ℕ → Station → List ℕ → List Made
calls v s [] = []
calls v s (b ∷ bs) = calls v (on_byte s b).after bs ++ made v s b

-- what calls answer that are made after others, the first one first
module _ (r : Roster) (timeouts : ℕ → ℕ) (before : List Made) where
  unfoldable pub answers_to : List Made → List Answer
  answers_to [] = []
  answers_to (m ∷ ms) = answers_to ms ++ ((outcome (state_of r timeouts (ms ++ before) m.on) m.lent m.call).answer ∷ [])

-- The calls of a feed, however it is cut, are a list of calls, of which demand 3 holds as of every other: it gives the answers
-- that the feed gives, leaves node v as the feed does, and every other node alone.
pub record AListOfCalls (r : Roster) (timeouts : ℕ → ℕ) (before : List Made) (v : ℕ) (s : Station) (pieces : List (List ℕ)) : Type 0 where
  pub answers : answers_to r timeouts before (calls v s (flatten pieces)) ≡ (in_pieces s pieces).answers
  pub node : state_of r timeouts (calls v s (flatten pieces) ++ before) v ≡ (in_pieces s pieces).after.node
  pub others : (w : ℕ) → (w ≡ v → ⊥) → state_of r timeouts (calls v s (flatten pieces) ++ before) w ≡ state_of r timeouts before w

-- for a feed that is handed to node v, whose state the station has, after any list of calls
abbrev pub FeedsAreCalls : Type 0
FeedsAreCalls = (r : Roster) (timeouts : ℕ → ℕ) (before : List Made) (v : ℕ) (s : Station) (pieces : List (List ℕ)) → state_of r timeouts before v ≡ s.node → AListOfCalls r timeouts before v s pieces

-- what a station has beside its line
abbrev pub world_of : Station → World
world_of s = record { node = s.node; tables = record { slots = s.slots; reports = s.reports } }

-- Made one after the other, each given the node and the tables as the last one left them, these calls leave both as the feed
-- does: ownership slides back over no feed (document 02, [14])
abbrev pub FeedsAreRuns : Type 0
FeedsAreRuns = (v : ℕ) (s : Station) (pieces : List (List ℕ)) → run after (world_of s) (map (λ (m : Made). m.call) (calls v s (flatten pieces))) ≡ world_of (in_pieces s pieces).after

-- ---- what holds of calls holds of feeds

-- a sound state stays sound
abbrev pub FeedsKeepSound : Type 0
FeedsKeepSound = (s : Station) (bytes : List ℕ) → sound s.node ≡ true → sound (stream s bytes).after.node ≡ true

-- two nodes that no caller can tell apart: neither can one that feeds them
pub record HeardAlike (g h : Heard) : Type 0 where
  pub answers : g.answers ≡ h.answers
  pub node : ActAlike g.after.node h.after.node
  pub slots : g.after.slots ≡ h.after.slots
  pub reports : g.after.reports ≡ h.after.reports
  pub line : g.after.line ≡ h.after.line

abbrev pub with_node : Node → Station → Station
with_node n s = record { node = n; slots = s.slots; reports = s.reports; line = s.line }

abbrev pub FedAlike : Type 0
FedAlike = (a b : Node) (s : Station) (bytes : List ℕ) → ActAlike a b → HeardAlike (stream (with_node a s) bytes) (stream (with_node b s) bytes)
