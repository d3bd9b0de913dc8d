-- `phrases::put_digits`: what is left to write is the digits from place i on.
use mathlib.Core.Path.{◌≡◌}
use lib.ListN.{drop}
use Rattle.lines.specs.Writers.{extended}
use Rattle.phrases.specs.Phrases.{commas}
use Rattle.phrases.proofs.put_digits.Given as goal

abbrev pub invariant-loop-i : goal.invariant-loop-i
invariant-loop-i l = extended l.initial.out (commas l.digits) ≡ extended l.out (commas (drop l.i l.digits))
