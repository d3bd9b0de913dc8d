-- `listing::list_whole`: there are at most as many ranges as slots.
use native.Mathlib.Omega.{arith}
use Rattle.listing.proofs.Stretches.{few}
use borrow.Author.Rules.{rules}
use Rattle.listing.proofs.list_whole.Goals as goal

pub write-requires : goal.write-requires
write-requires c = let a = c.args in
    (search rules, omega (arith, few a.size 0 a.slots.now))
