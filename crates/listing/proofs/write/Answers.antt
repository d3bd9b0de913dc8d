-- `listing::write`: what is written, and the ranges from the slot on behind it.
use native.Mathlib.Omega.{arith}
use Rattle.listing.proofs.Writing.{begun, done, on, still, past, room, put}
use Rattle.listing.proofs.write.Goals as goal

pub loop-s-init : goal.loop-s-init
loop-s-init c = begun _ _ _

pub overflow_sub-end : goal.overflow_sub-end
overflow_sub-end c = omega (arith, c.stretch_end-end.ensures)

pub put-requires : goal.put-requires
put-requires c =
    let h = c.loop-s-test.true in
    let e = c.stretch_end-end.ensures in
    let g = c.loop-s.invariant in
    (room g h e c.if-owner-size.true c.requires.1, omega arith, omega (arith, still g h e))

pub loop-s-smaller : goal.loop-s-smaller
loop-s-smaller c = omega (arith, on c.loop-s.invariant c.loop-s-test.true c.stretch_end-end.ensures)

pub loop-s-preserved : goal.loop-s-preserved
loop-s-preserved c = past c.loop-s.invariant c.loop-s-test.true c.stretch_end-end.ensures c.if-owner-size.false

pub loop-s-preserved-then-owner-size : goal.loop-s-preserved-then-owner-size
loop-s-preserved-then-owner-size c = put c.loop-s.invariant c.loop-s-test.true c.stretch_end-end.ensures c.if-owner-size.true c.requires.1 _ c.put.ensures

pub shape_of-list : goal.shape_of-list
shape_of-list c = c.loop-s.invariant.long

pub returns : goal.returns
returns c = done c.loop-s.invariant c.loop-s-test.false
