-- `lines::Writer::put_text`: what is written so far.
use mathlib.Core.Path.{◌≡◌}
use lib.ListN.{take}
use Rattle.lines.specs.Writers.{extended}
use Rattle.lines.proofs.Writer.put_text.Given as goal

abbrev pub invariant-loop-byte : goal.invariant-loop-byte
invariant-loop-byte l = l.self ≡ extended l.initial.self (take l.byte-index l.text)
