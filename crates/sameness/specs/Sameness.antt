-- Two nodes in the same state (state, `Same`) act alike: no caller can tell them apart, whatever stands in their arrays past the
-- roster's size and the marks' count.
use Rattle.std.specs.Prelude.{◌≡◌, Bool, true, List, [], ◌∷◌, ℕ}
use Rattle.answers.specs.declared.Answer.{Answer}
use Rattle.state.specs.Outcomes.{Stepped}
use Rattle.state.specs.Same.{Same}
use Rattle.state.specs.declared.Node.{Node}
use Rattle.soundness.specs.Sound.{arrays_whole}
use Rattle.routing.specs.Replies.{routed}
use Rattle.ranges.specs.Ranges.{ranges}
use Rattle.node.specs.Calls.{Tables, Call, called, outcome, tables_after}

-- ---- one call

-- what it leaves of two nodes: the same answer and tables, and nodes in the same state
pub record SameStep (x y : Stepped) : Type 0 where
  pub answer : x.outcome.answer ≡ y.outcome.answer
  pub node : Same x.outcome.node y.outcome.node
  pub slots : x.slots ≡ y.slots
  pub reports : x.reports ≡ y.reports

-- ---- calls one after another, the first one first

-- a call's arguments other than the state, and the tables lent
pub record LentCall : Type 0 where
  pub call : Call
  pub lent : Tables

-- the state after them: each call gets the state that the last one left
abbrev pub state_after : Node → List LentCall → Node
state_after n [] = n
state_after n (m ∷ ms) = state_after (outcome n m.lent m.call).node ms

-- what each of them answered, and the tables that it left
abbrev pub told : Node → List LentCall → List (Answer × Tables)
told n [] = []
told n (m ∷ ms) = ((outcome n m.lent m.call).answer, tables_after n m.lent m.call) ∷ told (outcome n m.lent m.call).node ms

-- ---- what no caller can tell apart

pub record ActAlike (a b : Node) : Type 0 where
  -- each call, with any tables lent
  pub call : (t : Tables) (c : Call) → SameStep (called a t c) (called b t c)
  -- every list of calls, each with any tables lent
  pub list : (ms : List LentCall) → told a ms ≡ told b ms
  -- and after it the state, where a key goes, and the ranges that are listed
  pub state : (ms : List LentCall) → Same (state_after a ms) (state_after b ms)
  pub reply : (ms : List LentCall) (slots key : List ℕ) (present asking : Bool) → routed (state_after a ms) slots key present asking ≡ routed (state_after b ms) slots key present asking
  pub listing : (ms : List LentCall) (slots list : List ℕ) → ranges (state_after a ms) slots list ≡ ranges (state_after b ms) slots list

-- of nodes whose arrays have their types' lengths, as those of every value of the program have
abbrev pub SameStatesActAlike : Node → Node → Type 0
SameStatesActAlike a b = arrays_whole a ≡ true → arrays_whole b ≡ true → Same a b → ActAlike a b
