-- `claims::first_newer` meets its contract: a search from the front, from one claimed slot to the next.
use mathlib.Core.Path.{refl}
use native.Mathlib.Omega.{arith}
use lib.Count.{trailing_le}
use borrow.Author.Tests.{lt-ltb, le-ltb}
use Rattle.bitmaps.proofs.Scan.{rest_less}
use Rattle.bitmaps.proofs.Claims.{in_table, is_claimed_lem, opens, closes, reads_on}
use Rattle.claims.proofs.Search.{set_out, arrived, carries, here, not_here}
use Rattle.claims.proofs.first_newer.Goals as goal
use Rattle.claims.proofs.first_newer.Goals.{else-owner-size-via-then-owner-size+else-config-known_at, else-owner-size-via-else-owner-size}

pub loop-from-init : goal.loop-from-init
loop-from-init c = (refl, set_out _ _)

pub loop-word-init : goal.loop-word-init
loop-word-init c = opens (carries _ _ _ (λ s o e. rw e)) (rw c.loop-from.invariant.0 at c.word_at-word.ensures) c.loop-from.invariant.1

pub overflow_cast-s : goal.overflow_cast-s
overflow_cast-s c = omega (arith, trailing_le 64 c.loop-word.word)

pub overflow_add-s : goal.overflow_add-s
overflow_add-s c = omega (arith, in_table c.loop-word.invariant.unread c.loop-word-test.true)

pub offset_bounds-slots-s : goal.offset_bounds-slots-s
offset_bounds-slots-s c = omega (arith, in_table c.loop-word.invariant.unread c.loop-word-test.true)

pub bounds-slots-s : goal.bounds-slots-s
bounds-slots-s c = in_table c.loop-word.invariant.unread c.loop-word-test.true

pub loop-word-smaller : goal.loop-word-smaller
loop-word-smaller c = rest_less c.loop-word.word c.loop-word-test.true

pub loop-word-preserved : goal.loop-word-preserved
loop-word-preserved c =
    let i = c.loop-word.invariant in
    let f = c.loop-word-test.true in
    reads_on (carries _ _ _ (λ s o e. rw e)) i f
    (not_here _ _ _ i.at (elim c.else-owner-size.branch [
      | else-owner-size-via-then-owner-size+else-config-known_at w ↦ rw (is_claimed_lem i.unread f, lt-ltb _ _ w.if-owner-size.true, ← w.known_at.ensures, le-ltb _ _ w.if-config-known_at.false)
      | else-owner-size-via-else-owner-size w ↦ rw (is_claimed_lem i.unread f, le-ltb _ _ w.if-owner-size.false)
    ]))

pub returns-then-config-known_at : goal.returns-then-config-known_at
returns-then-config-known_at c =
    let i = c.loop-word.invariant in
    let f = c.loop-word-test.true in
    here _ _ _ i.at (in_table i.unread f) (rw (is_claimed_lem i.unread f, lt-ltb _ _ c.if-owner-size.true, ← c.known_at.ensures, lt-ltb _ _ c.if-config-known_at.true))

pub loop-from-preserved : goal.loop-from-preserved
loop-from-preserved c = (omega (arith, c.loop-from.invariant.0), closes c.loop-word.invariant c.loop-word-test.false)

pub returns : goal.returns
returns c = arrived _ _ c.loop-from.invariant.1 c.loop-from-test.false
