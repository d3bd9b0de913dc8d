-- `bitmaps::word_at` meets its contract: the mask leaves the slots asked for.
use mathlib.Core.Path.{◌≡◌}
use Prim.Native.Nat.{◌*◌, min}
use native.Mathlib.Omega.{arith}
use Rattle.tables.specs.Sets.{claimed}
use Rattle.tables.proofs.Words.{word_low}
use Rattle.bitmaps.proofs.Bytes.{mask_is}
use Rattle.bitmaps.proofs.word_at.Goals as goal

pub returns-then-slots-lt64 : goal.returns-then-slots-lt64
returns-then-slots-lt64 c =
    let a = c.args in
    let m : min a.slots 64 ≡ a.slots = omega arith in
    rw (m, mask_is a.slots (omega arith), c.word_from-word.ensures) (word_low (claimed a.bitmap.now) (8 * a.k) a.slots (omega arith))

pub returns : goal.returns
returns c =
    let m : min c.args.slots 64 ≡ 64 = omega arith in
    rw m c.word_from-word.ensures
