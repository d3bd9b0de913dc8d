-- `listing::list`: two checks, and then the ranges.
use native.Mathlib.Omega.{arith}
use borrow.Author.Tests.{eq-eqb, ne_eqb, lt-ltb, le-ltb}
use Rattle.listing.specs.Listing.{lists, entered}
use Rattle.listing.proofs.Stretches.{few}
use Rattle.listing.proofs.list.Goals as goal

pub returns-then-slots : goal.returns-then-slots
unfolding lists
returns-then-slots c = rw (ne_eqb _ _ c.if-slots.true)

pub overflow_mul-numbers : goal.overflow_mul-numbers
overflow_mul-numbers c =
    let a = c.args in
    omega (arith, c.count-count.ensures, few a.size 0 a.slots.now, c.if-slots.false)

pub returns-then-list-numbers : goal.returns-then-list-numbers
unfolding lists entered
returns-then-list-numbers c = rw (eq-eqb _ _ c.if-slots.false, ← c.count-count.ensures, lt-ltb _ _ c.if-list-numbers.true)

pub write-requires : goal.write-requires
write-requires c = (c.if-slots.false, omega (arith, c.count-count.ensures, c.if-list-numbers.false))

pub returns : goal.returns
unfolding lists entered
returns c =
    let x = c in
    rw (c.write.ensures, eq-eqb _ _ x.if-slots.false, ← x.count-count.ensures, le-ltb _ _ c.if-list-numbers.false)
