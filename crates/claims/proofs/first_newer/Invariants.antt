-- `claims::first_newer` meets its contract: a search from the front, from one claimed slot to the next.
use mathlib.Core.Path.{◌≡◌}
use Prim.Native.Nat.{◌-◌, ◌*◌, ◌/◌}
use lib.ListN.{length, get_or}
use Rattle.bitmaps.proofs.Claims.{Reads}
use Rattle.claims.specs.Claims.{newer_owner}
use Rattle.claims.proofs.Search.{Come}
use Rattle.claims.proofs.first_newer.Given as goal

abbrev pub invariant-loop-word : goal.invariant-loop-word
invariant-loop-word l = Reads (Come (newer_owner l.size (λ o. get_or l.configs o 0) l.bitmap l.config) l.slots) l.bitmap (length l.slots) l.from l.word

abbrev pub decreases-loop-word : goal.decreases-loop-word
decreases-loop-word l = l.word

abbrev pub invariant-loop-from : goal.invariant-loop-from
invariant-loop-from l = (8 * (l.from / 8) ≡ l.from) × Come (newer_owner l.size (λ o. get_or l.configs o 0) l.bitmap l.config) l.slots l.from

abbrev pub decreases-loop-from : goal.decreases-loop-from
decreases-loop-from l = length l.slots - l.from
