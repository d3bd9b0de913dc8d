-- `marks::place` meets its contract.
use mathlib.Core.Path.{◌≡◌, ap}
use native.Mathlib.Omega.{arith}
use mathlib.Core.List.{[]}
use lib.ListN.{drop, drop_of_length-le}
use Rattle.marks.specs.Marks.{place_of}
use Rattle.marks.proofs.Loops.{here, further}
use Rattle.marks.proofs.place.Goals as goal

pub returns-then-slot-mark : goal.returns-then-slot-mark
returns-then-slot-mark c = (omega (arith, here c.args.marks.now c.loop-i.i (omega arith) c.args.slot c.if-slot-mark.true), omega arith)

pub loop-i-preserved : goal.loop-i-preserved
loop-i-preserved c = omega (arith, further c.args.marks.now c.loop-i.i (omega arith) c.args.slot c.if-slot-mark.false)

pub returns : goal.returns
unfolding place_of
returns c =
    let none : drop c.loop-i.i c.args.marks.now ≡ [] = drop_of_length-le c.args.marks.now (omega arith) in
    (omega (arith, ap (place_of c.args.slot) none), omega arith)
