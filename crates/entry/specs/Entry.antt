-- What every call asks before all else: 1, a lent table has the wrong length; 7, the state is not sound.
use Rattle.std.specs.Prelude.{Bool, not, List, [], ◌∷◌}
use Rattle.answers.specs.declared.Answer.{Answer}
use Rattle.answers.specs.declared.Answer.TheVariants.{WrongLength, Unsound}
use Rattle.state.specs.declared.Node.{Node}
use Rattle.soundness.specs.Sound.{sound}

-- by whether each table that the call is lent has its length; a call that is lent none asks 7 alone
abbrev pub entry_checks : Bool → Node → List (Bool × Answer)
entry_checks lengths n = (not lengths, WrongLength) ∷ (not (sound n), Unsound) ∷ []
