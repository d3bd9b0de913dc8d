-- `bitmaps::few`: the word is that of the bytes from place i on, and at most seven of them have been read, so that one more has room.
use mathlib.Core.Path.{◌≡◌, sym}
use Prim.Native.Nat.{◌-◌}
use native.Mathlib.Omega.{arith}
use Rattle.bitmaps.proofs.Bytes.{word_ended, short_fits, word_back}
use Rattle.bitmaps.proofs.few.Goals as goal

pub loop-i-init : goal.loop-i-init
loop-i-init c = record { from = omega arith; word = sym (word_ended c.args.bitmap.now _ 64 (omega arith)) }

pub overflow_mul-word : goal.overflow_mul-word
overflow_mul-word c = omega (arith, short_fits c.args.bitmap.now c.loop-i.i (omega arith))

pub overflow_add-word : goal.overflow_add-word
overflow_add-word c = omega (arith, short_fits c.args.bitmap.now c.loop-i.i (omega arith), c.type_inv.bitmap (c.loop-i.i - 1))

pub loop-i-preserved : goal.loop-i-preserved
loop-i-preserved c =
    let l = c.loop-i in
    record {
      from = omega arith;
      word = omega (arith, word_back c.args.bitmap.now l.i (omega arith) (omega arith) (c.type_inv.bitmap (l.i - 1)).fits);
    }

pub returns : goal.returns
returns c =
    let e : c.loop-i.i ≡ c.args.k = omega arith in
    rw e at c.loop-i.invariant.word
