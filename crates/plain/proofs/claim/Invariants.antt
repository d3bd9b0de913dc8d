-- `plain::claim` meets its contract: each turn is a slot by its fate.
use Rattle.ownership.specs.Claim.{claimant}
use Rattle.plain.proofs.Turns.{Goes}
use Rattle.plain.proofs.claim.Given as goal

abbrev pub invariant-loop-s : goal.invariant-loop-s
invariant-loop-s l =
    Goes (claimant l.configs l.size l.sender l.config) l.bitmap l.initial.slots l.end l.s l.slots l.bound l.rebound l.stale
