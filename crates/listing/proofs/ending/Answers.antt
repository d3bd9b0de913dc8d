-- `listing::ending`: two tests.
use native.Mathlib.Omega.{arith}
use borrow.Author.Tests.{lt-ltb, le-ltb, eq-eqb, ne_eqb}
use Rattle.listing.proofs.ending.Goals as goal

pub returns-then-owner-size : goal.returns-then-owner-size
returns-then-owner-size c = (simp (le-ltb _ _ c.if-owner-size.true), omega arith)

pub returns-then-owner-next : goal.returns-then-owner-next
returns-then-owner-next c = (simp (lt-ltb _ _ c.if-owner-size.false, eq-eqb _ _ c.if-owner-next.true), omega arith)

pub returns : goal.returns
returns c = (simp (lt-ltb _ _ c.if-owner-size.false, ne_eqb _ _ c.if-owner-next.false), omega arith)
