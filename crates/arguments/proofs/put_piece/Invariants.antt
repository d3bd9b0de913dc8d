-- `arguments::put_piece`: what is left to write is the characters from this one on.
use mathlib.Core.Path.{◌≡◌}
use mathlib.Core.List.{map}
use lib.ListN.{drop}
use Rattle.lines.specs.Writers.{extended}
use Rattle.arguments.specs.Bytes.{handed}
use Rattle.arguments.proofs.put_piece.Given as goal

abbrev pub invariant-loop-character : goal.invariant-loop-character
invariant-loop-character l = extended l.initial.out (map handed l.word) ≡ extended l.out (map handed (drop l.character-index l.word))
