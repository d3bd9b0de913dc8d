-- `hexout::write_number`: with the bytes in front of it written too, the text is whole.
use mathlib.Core.Path.{◌≡◌}
use Rattle.hexdigits.specs.Hex.{hex, bytes_of, over}
use Rattle.hexout.proofs.write_number.Given as goal

abbrev pub invariant-loop-k : goal.invariant-loop-k
invariant-loop-k l = over l.out l.i (hex (bytes_of l.k l.rest)) ≡ over l.initial.out l.i (hex (bytes_of 8 l.number))
