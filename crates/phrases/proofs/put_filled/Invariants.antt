-- `phrases::put_filled`: what is left to write is the text from this byte on, with the numbers that are left.
use mathlib.Core.Path.{◌≡◌}
use lib.ListN.{drop}
use Rattle.lines.specs.Writers.{extended}
use Rattle.phrases.specs.Phrases.{filled}
use Rattle.phrases.proofs.put_filled.Given as goal

abbrev pub invariant-loop-byte : goal.invariant-loop-byte
invariant-loop-byte l = extended l.initial.out (filled l.text l.numbers) ≡ extended l.out (filled (drop l.byte-index l.text) l.left.rest.now)
