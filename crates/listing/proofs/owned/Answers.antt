-- `listing::owned`: one test.
use native.Mathlib.Omega.{arith}
use borrow.Author.Tests.{lt-ltb, le-ltb}
use Rattle.listing.proofs.owned.Goals as goal

pub returns-then-owner-size : goal.returns-then-owner-size
returns-then-owner-size c = (simp (lt-ltb _ _ c.if-owner-size.true), omega arith)

pub returns : goal.returns
returns c = (simp (le-ltb _ _ c.if-owner-size.false), omega arith)
