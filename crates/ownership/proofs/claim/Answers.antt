-- `ownership::claim` meets its contract: each turn of the inner loop is a claimed slot by its fate, and between two turns slots stay.
use mathlib.Core.Path.{refl, sym, ◌∙◌}
use native.Mathlib.Omega.{arith}
use lib.Count.{trailing_le}
use Rattle.bitmaps.proofs.Scan.{rest_less}
use Rattle.bitmaps.proofs.Claims.{is_claimed_lem, closes, reads_on}
use Rattle.ownership.proofs.Walk.{begin, onwards, joined, binds, rebinds, tells, keeps, finish}
use Rattle.ownership.proofs.Reading.{carries, starts_reading, in_slots}
use Rattle.ownership.proofs.claim.Goals as goal

pub loop-from-init : goal.loop-from-init
loop-from-init c = (refl, begin)

pub pending-word-requires : goal.pending-word-requires
pending-word-requires c = (c.loop-from-test.true, c.loop-from.invariant.0)

pub loop-word-init : goal.loop-word-init
loop-word-init c = starts_reading (onwards c.loop-from.invariant.1) c.pending-word.ensures

pub overflow_cast-s : goal.overflow_cast-s
overflow_cast-s c = omega (arith, trailing_le 64 c.loop-word.word)

pub overflow_add-s : goal.overflow_add-s
overflow_add-s c = omega (arith, in_slots c.loop-word.invariant c.loop-word-test.true)

pub offset_bounds-slots-s : goal.offset_bounds-slots-s
offset_bounds-slots-s c = omega (arith, in_slots c.loop-word.invariant c.loop-word-test.true)

pub bounds-slots-s : goal.bounds-slots-s
bounds-slots-s c = in_slots c.loop-word.invariant c.loop-word-test.true

pub offset_bounds-slots-s-in-Bound : goal.offset_bounds-slots-s-in-Bound
offset_bounds-slots-s-in-Bound c = omega (arith, in_slots c.loop-word.invariant c.loop-word-test.true)

pub bounds-slots-s-in-Bound : goal.bounds-slots-s-in-Bound
bounds-slots-s-in-Bound c = in_slots c.loop-word.invariant c.loop-word-test.true

pub overflow_add-bound : goal.overflow_add-bound
overflow_add-bound c = omega (arith, in_slots c.loop-word.invariant c.loop-word-test.true, c.loop-word.invariant.at.bounds)

pub loop-word-smaller-in-Bound : goal.loop-word-smaller-in-Bound
loop-word-smaller-in-Bound c = rest_less c.loop-word.word c.loop-word-test.true

pub loop-word-preserved-in-Bound : goal.loop-word-preserved-in-Bound
loop-word-preserved-in-Bound c = let i = c.loop-word.invariant in let f = c.loop-word-test.true in reads_on carries i f (binds i.at (in_slots i f) (is_claimed_lem i.unread f) (sym c.fate_of.ensures ∙ c.in-Bound.is))

pub offset_bounds-slots-s-in-Rebound : goal.offset_bounds-slots-s-in-Rebound
offset_bounds-slots-s-in-Rebound c = omega (arith, in_slots c.loop-word.invariant c.loop-word-test.true)

pub bounds-slots-s-in-Rebound : goal.bounds-slots-s-in-Rebound
bounds-slots-s-in-Rebound c = in_slots c.loop-word.invariant c.loop-word-test.true

pub overflow_add-rebound : goal.overflow_add-rebound
overflow_add-rebound c = omega (arith, in_slots c.loop-word.invariant c.loop-word-test.true, c.loop-word.invariant.at.rebounds)

pub loop-word-smaller-in-Rebound : goal.loop-word-smaller-in-Rebound
loop-word-smaller-in-Rebound c = rest_less c.loop-word.word c.loop-word-test.true

pub loop-word-preserved-in-Rebound : goal.loop-word-preserved-in-Rebound
loop-word-preserved-in-Rebound c = let i = c.loop-word.invariant in let f = c.loop-word-test.true in reads_on carries i f (rebinds i.at (in_slots i f) (is_claimed_lem i.unread f) (sym c.fate_of.ensures ∙ c.in-Rebound.is))

pub loop-word-smaller-in-Stale : goal.loop-word-smaller-in-Stale
loop-word-smaller-in-Stale c = rest_less c.loop-word.word c.loop-word-test.true

pub loop-word-preserved-in-Stale : goal.loop-word-preserved-in-Stale
loop-word-preserved-in-Stale c = let i = c.loop-word.invariant in let f = c.loop-word-test.true in reads_on carries i f (tells i.at (in_slots i f) (is_claimed_lem i.unread f) c.or-stale.ensures (sym c.fate_of.ensures ∙ c.in-Stale.is))

pub loop-word-smaller : goal.loop-word-smaller
loop-word-smaller c = rest_less c.loop-word.word c.loop-word-test.true

pub loop-word-preserved : goal.loop-word-preserved
loop-word-preserved c = let i = c.loop-word.invariant in let f = c.loop-word-test.true in reads_on carries i f (keeps i.at (in_slots i f) (is_claimed_lem i.unread f) (sym c.fate_of.ensures ∙ c.in-Stays.is))

pub loop-from-preserved : goal.loop-from-preserved
loop-from-preserved c = (omega (arith, c.loop-from.invariant.0), joined c.loop-from.invariant.1 (closes c.loop-word.invariant c.loop-word-test.false))

pub shape_of-slots : goal.shape_of-slots
shape_of-slots c = c.loop-from.invariant.1.long

pub returns : goal.returns
returns c = finish c.loop-from.invariant.1 c.loop-from-test.false
