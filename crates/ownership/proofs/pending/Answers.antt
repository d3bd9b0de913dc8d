-- `ownership::pending` meets its contract: no claim, the sender's own, or the claims.
use mathlib.Core.Path.{◌≡◌, refl, sym, ◌∙◌}
use mathlib.Core.Bool.{Bool, true, false, cond}
use mathlib.Core.List.{List}
use Prim.Native.Nat.{ℕ, ◌+◌, ◌*◌, ◌/◌}
use native.Mathlib.Omega.{arith}
use lib.ListN.{length}
use borrow.Author.Tests.{lt-ltb, le-ltb, lt-leb, le-leb}
use Rattle.tables.specs.Sets.{claimed, word_of}
use Rattle.ownership.specs.Own.{all_own}
use Rattle.ownership.proofs.pending.Goals as goal

-- a word that is 0 is 0 either way
nothing : (t : Bool) (w : ℕ) → w ≡ 0 → 0 ≡ cond t 0 w
nothing true w e = refl
nothing false w e = sym e

-- the word read is that of the claims from the slot on
from_slot : (m : List ℕ) (from n w : ℕ) → 8 * (from / 8) ≡ from → w ≡ word_of (claimed m) (8 * (from / 8)) n → w ≡ word_of (claimed m) from n
from_slot m from n w e h = rw e at h

pub returns-then-word-eq0 : goal.returns-then-word-eq0
returns-then-word-eq0 c = let a = c.args in nothing (all_own a.size a.sender a.slots.now a.from) _ (sym (from_slot _ _ _ _ c.requires.1 c.word_at-word.ensures) ∙ c.if-word-eq0.true)

pub returns-then-sender-size : goal.returns-then-sender-size
returns-then-sender-size c = rw (le-ltb _ _ c.if-sender-size.true) (from_slot _ _ _ _ c.requires.1 c.word_at-word.ensures)

pub returns-then-left-lt64 : goal.returns-then-left-lt64
returns-then-left-lt64 c =
    let a = c.args in
    rw (lt-ltb _ _ c.if-sender-size.false, lt-leb (a.from + 64) (length a.slots.now) (omega arith)) (from_slot _ _ _ _ c.requires.1 c.word_at-word.ensures)

pub returns-then-not-owned_by : goal.returns-then-not-owned_by
returns-then-not-owned_by c =
    let a = c.args in
    rw (lt-ltb _ _ c.if-sender-size.false, le-leb (a.from + 64) (length a.slots.now) (omega arith), ← c.owned_by.ensures, c.if-not-owned_by.true) (from_slot _ _ _ _ c.requires.1 c.word_at-word.ensures)

pub returns : goal.returns
returns c =
    let a = c.args in
    rw (lt-ltb _ _ c.if-sender-size.false, le-leb (a.from + 64) (length a.slots.now) (omega arith), ← c.owned_by.ensures, c.if-not-owned_by.false)
