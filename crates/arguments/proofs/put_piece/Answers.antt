-- `arguments::put_piece`: what is left to write is the characters from this one on.
use mathlib.Core.Path.{sym, ◌∙◌}
use Rattle.lines.proofs.Texts.{puts_append}
use Rattle.lines.proofs.Writers.{extended_none}
use Rattle.arguments.specs.Bytes.{piece_bytes}
use Rattle.arguments.proofs.Bytes.{one_handed, all_handed}
use Rattle.arguments.proofs.put_piece.Goals as goal

pub loop-character-preserved : goal.loop-character-preserved
loop-character-preserved c =
    c.loop-character.invariant ∙ simp (one_handed c.args.word.now c.loop-character.character-index c.loop-character-test.true, c.put.ensures, c.handed.ensures, puts_append)

pub returns : goal.returns
unfolding piece_bytes
returns c =
    let l = c.loop-character in
    sym (l.invariant ∙ simp (all_handed c.args.word.now l.character-index c.loop-character-test.false) (extended_none _))
