-- A sound state stays sound under every call, and an unsound one stays as it is, answered 7 or 1.
use Rattle.std.specs.Prelude.{◌≡◌, ◌⊎◌, true, false}
use Rattle.answers.specs.declared.Answer.TheVariants.{WrongLength, Unsound}
use Rattle.state.specs.Outcomes.{answered}
use Rattle.state.specs.declared.Node.{Node}
use Rattle.soundness.specs.Sound.{sound}
use Rattle.node.specs.Calls.{Tables, Call, outcome}

-- a call is a frame of any kind, well formed or not, an opening, the setting or the clearing of a mark; the tables are any
abbrev pub EveryCallKeepsSound : Node → Tables → Call → Type 0
EveryCallKeepsSound n t c = sound n ≡ true → sound (outcome n t c).node ≡ true

abbrev pub UnsoundStays : Node → Tables → Call → Type 0
UnsoundStays n t c = sound n ≡ false → (outcome n t c ≡ answered n Unsound) ⊎ (outcome n t c ≡ answered n WrongLength)
