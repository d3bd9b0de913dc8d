-- `feeding::ukweribaso_feed`: the answers so far, and what the bytes that are left come to, from any call on.
use Prim.Native.Nat.{◌+◌, ◌≤◌, ◌<◌}
use native.Mathlib.Omega.{arith}
use Rattle.feeding.proofs.Pieces.{at_first, moved, called, finished}
use borrow.Author.Rules.{rules}
use Rattle.feeding.proofs.ukweribaso_feed.Goals as goal

pub loop-at-init : goal.loop-at-init
loop-at-init c = (at_first _ _, omega arith, search rules, search rules)

pub piece_end-end-requires : goal.piece_end-end-requires
piece_end-end-requires c = (c.loop-at-test.true, c.loop-at.invariant.1, c.piece_size-part.ensures (omega arith))

pub overflow_add-at : goal.overflow_add-at
overflow_add-at c = omega (arith, (let moves : (0 < c.feed-fed.result.used) × (c.loop-at.at + c.feed-fed.result.used ≤ c.piece_end-end.result) = moved _ _ _ _ c.piece_end-end.ensures.0 c.piece_end-end.ensures.1 _ c.feed-fed.ensures in moves).1)

pub loop-at-smaller : goal.loop-at-smaller
loop-at-smaller c = omega (arith, (let moves : (0 < c.feed-fed.result.used) × (c.loop-at.at + c.feed-fed.result.used ≤ c.piece_end-end.result) = moved _ _ _ _ c.piece_end-end.ensures.0 c.piece_end-end.ensures.1 _ c.feed-fed.ensures in moves).0)

pub loop-at-preserved : goal.loop-at-preserved
loop-at-preserved c =
    (called c.loop-at.invariant.0 _ _ c.feed-fed.ensures _ c.noted-notes.ensures, c.piece_end-end.ensures.1, search rules, search rules)

pub returns : goal.returns
returns c =
    let l = c.loop-at.invariant.0 in
    rw (← c.node-here.ensures, ← c.none-kept.ensures, finished l c.loop-at-test.false, ← l.told)
