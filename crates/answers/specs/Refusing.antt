-- What checks in order come to: the first answer that applies, as an error, or nothing.
use Rattle.std.specs.Prelude.{Result, Ok, ⊤}
use Rattle.answers.specs.declared.Answer.{Answer}

abbrev pub Check : Type 0
Check = Result ⊤ Answer

-- nothing is refused
abbrev pub cleared : Check
cleared = Ok tt
