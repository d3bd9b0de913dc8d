-- `ownership::claim` meets its contract: each turn of the inner loop is a claimed slot by its fate, and between two turns slots stay.
use mathlib.Core.Path.{◌≡◌}
use Prim.Native.Nat.{◌-◌, ◌*◌, ◌/◌}
use lib.ListN.{length}
use Rattle.bitmaps.proofs.Claims.{Reads}
use Rattle.ownership.specs.Claim.{claimant, claim}
use Rattle.ownership.proofs.Walk.{left, Stands}
use Rattle.ownership.proofs.claim.Given as goal

abbrev pub invariant-loop-word : goal.invariant-loop-word
invariant-loop-word l =
    Reads (λ s. Stands (claimant l.configs l.size l.sender l.config) l.bitmap (left (claimant l.configs l.size l.sender l.config) l.bitmap l.from l.initial.slots l.initial.bound l.initial.rebound l.initial.stale) (length l.initial.slots) s l.slots l.bound l.rebound l.stale) l.bitmap (length l.initial.slots) l.from l.word

abbrev pub decreases-loop-word : goal.decreases-loop-word
decreases-loop-word l = l.word

abbrev pub invariant-loop-from : goal.invariant-loop-from
invariant-loop-from l =
    (8 * (l.from / 8) ≡ l.from) × Stands (claimant l.configs l.size l.sender l.config) l.bitmap (claim (claimant l.configs l.size l.sender l.config) l.bitmap l.initial.slots) (length l.initial.slots) l.from l.slots l.bound l.rebound l.stale

abbrev pub decreases-loop-from : goal.decreases-loop-from
decreases-loop-from l = length l.initial.slots - l.from
