-- `arguments::put_key`: after i turns the first i bytes are written.
use mathlib.Core.Path.{◌≡◌}
use Rattle.lines.specs.Writers.{extended}
use Rattle.hexdigits.specs.Hex.{bytes_at}
use Rattle.arguments.proofs.put_key.Given as goal

abbrev pub invariant-loop-i : goal.invariant-loop-i
invariant-loop-i l = l.out ≡ extended l.initial.out (bytes_at l.digits 0 l.i)
