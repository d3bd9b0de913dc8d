-- `scraps::keep`: what comes is copied behind what is kept.
use mathlib.Core.Path.{refl}
use native.Mathlib.Omega.{arith}
use Rattle.std.proofs.lemmas.Slice.{take-put_mid}
use Rattle.scraps.proofs.Lines.{stays, becomes, copied}
use Rattle.scraps.proofs.keep.Goals as goal

pub returns-then-start-gt-ROOM : goal.returns-then-start-gt-ROOM
returns-then-start-gt-ROOM c = stays _ _ _ c.if-start-gt-ROOM.true

pub returns-then-more-start : goal.returns-then-more-start
returns-then-more-start c = becomes _ _ _ (omega arith) c.if-start-gt-ROOM.false c.if-more-start.true

pub returns : goal.returns
returns c =
    let bytes = c.args.kept.bytes in
    let start = c.args.kept.length in
    rw c.copy_from_slice.ensures.after
    (copied bytes _ start (omega arith) c.if-start-gt-ROOM.false c.if-more-start.false _ refl (take-put_mid start _ bytes _ _ refl (omega arith)))
