-- `arguments::put_digits`: after j turns the first j digits are written.
use mathlib.Core.Path.{◌≡◌}
use Rattle.lines.specs.Writers.{extended}
use Rattle.arguments.specs.Bytes.{digits_below}
use Rattle.arguments.proofs.put_digits.Given as goal

abbrev pub invariant-loop-j : goal.invariant-loop-j
invariant-loop-j l = l.out ≡ extended l.initial.out (digits_below l.table l.j)
