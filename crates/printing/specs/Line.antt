-- The line that is printed for an answer.
use Rattle.std.specs.Prelude.{ℕ, List, [], ◌∷◌, ◌++◌}
use Rattle.tables.specs.Lists.{newline}
use Rattle.answers.specs.Answers.{number}
use Rattle.answers.specs.declared.Answer.{Answer}
use Rattle.lines.specs.Texts.{decimal}

abbrev pub space : ℕ
space = 0x20

-- answer, currentEpoch and lastVoteEpoch
unfoldable pub printed : Answer → ℕ → ℕ → List ℕ
printed answer current voted = decimal (number answer) ++ space ∷ [] ++ decimal current ++ space ∷ [] ++ decimal voted ++ newline ∷ []
