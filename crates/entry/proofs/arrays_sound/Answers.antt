-- `entry::arrays_sound` meets its contract: each early answer cites the test that failed.
use mathlib.Core.Path.{◌≡◌, refl, sym}
use mathlib.Core.Bool.{true}
use Prim.Native.Nat.{ℕ, ◌+◌, ◌-◌, ◌≤◌}
use native.Mathlib.Omega.{arith}
use lib.ListN.{length, get_or}
use borrow.Author.Tests.{lt-ltb, le-leb, eq-eqb, leb-true}
use Rattle.tables.specs.Below.{every}
use Rattle.tables.proofs.Checks.{fails, part}
use Rattle.tables.proofs.Below.{every_fails, every_more}
use Rattle.state.specs.Node.{record_at}
use Rattle.state.specs.declared.Node.{Node}
use Rattle.soundness.specs.Sound.{sound, sound_checks, bounds_kept, bound_checks, arrays_whole, ids_ascend, id_in_order, records_sound, record_sound_at, election_sound, own_clear, marks_sound, mark_sound_at}
use Rattle.entry.proofs.Arrays.{passed_none, passed_more, passed_low, passed_all}
use Rattle.entry.proofs.arrays_sound.Goals as goal

-- what the arrays' types say
whole : (n : Node) → length n.ids ≡ 64 → length n.records ≡ 64 → length n.marks ≡ 16 → arrays_whole n ≡ true
unfolding arrays_whole
whole n i r m = rw (eq-eqb _ _ i, eq-eqb _ _ r) (eq-eqb _ _ m)

bound : (n : Node) → bounds_kept n ≡ true → (k : ℕ) → get_or (bound_checks n) k true ≡ true
unfolding bounds_kept
bound n h k = part k (bound_checks n) h

few_nodes : (n : Node) → bounds_kept n ≡ true → n.size ≤ 64
few_nodes n h = leb-true _ _ (bound n h 5)

few_marks : (n : Node) → bounds_kept n ≡ true → n.marked ≤ 16
few_marks n h = leb-true _ _ (bound n h 6)

-- ---- places within the arrays

pub bounds-node-from : goal.bounds-node-from
bounds-node-from c = omega (arith, few_nodes c.args.node.now c.requires.0)

pub bounds-node-i : goal.bounds-node-i
bounds-node-i c = omega (arith, few_marks c.args.node.now c.requires.0)

pub bounds-node-k : goal.bounds-node-k
bounds-node-k c = omega (arith, few_nodes c.args.node.now c.requires.0)

pub bounds-node-j : goal.bounds-node-j
bounds-node-j c = omega (arith, few_nodes c.args.node.now c.requires.0)

pub bounds-node-j-in-loop-j : goal.bounds-node-j-in-loop-j
bounds-node-j-in-loop-j c = omega (arith, few_nodes c.args.node.now c.requires.0)

-- ---- this node itself

pub returns-then-not-own_clear : goal.returns-then-not-own_clear
unfolding sound
returns-then-not-own_clear c = fails 9 (sound_checks c.args.node.now) (cc)

pub returns-then-not-election_sound : goal.returns-then-not-election_sound
unfolding sound
returns-then-not-election_sound c = fails 6 (sound_checks c.args.node.now) (cc)

-- ---- marks

pub loop-i-init : goal.loop-i-init
loop-i-init c = passed_none c.args.node.now

pub returns-then-not-mark_sound : goal.returns-then-not-mark_sound
unfolding sound marks_sound
returns-then-not-mark_sound c = let n = c.args.node.now in fails 8 (sound_checks n) (sym (every_fails (mark_sound_at n) n.marked c.loop-i.i (omega arith) (cc)))

pub returns-then-mark-least : goal.returns-then-mark-least
unfolding sound
returns-then-mark-least c = let n = c.args.node.now in fails 7 (sound_checks n) (sym (passed_low n c.loop-i.i c.loop-i.least c.loop-i.invariant (omega arith) c.if-mark-least.true))

pub loop-i-preserved : goal.loop-i-preserved
loop-i-preserved c = passed_more c.args.node.now c.loop-i.i c.loop-i.least c.loop-i.invariant (cc) c.if-mark-least.false

-- ---- records

pub loop-k-init : goal.loop-k-init
unfolding every
loop-k-init c = refl

pub returns-then-not-record_sound : goal.returns-then-not-record_sound
unfolding sound records_sound
returns-then-not-record_sound c = let n = c.args.node.now in fails 4 (sound_checks n) (sym (every_fails (record_sound_at n) n.size c.loop-k.k (omega arith) (cc)))

pub loop-k-preserved : goal.loop-k-preserved
loop-k-preserved c = every_more (record_sound_at c.args.node.now) c.loop-k.k c.loop-k.invariant (cc)

-- ---- ids

pub loop-j-init : goal.loop-j-init
unfolding every
loop-j-init c = refl

pub returns-then-not-earlier : goal.returns-then-not-earlier
unfolding sound ids_ascend
returns-then-not-earlier c =
    let n = c.args.node.now in
    let j = c.loop-j.j in
    let e : j - 1 + 1 ≡ j = omega arith in
    fails 2 (sound_checks n) (sym (every_fails (id_in_order n) (n.size - 1) (j - 1) (omega arith) (rw e (cc))))

pub loop-j-preserved : goal.loop-j-preserved
loop-j-preserved c =
    let j = c.loop-j.j in
    let e : j - 1 + 1 ≡ j = omega arith in
    let f : j + 1 - 1 ≡ j - 1 + 1 = omega arith in
    rw f (every_more (id_in_order c.args.node.now) (j - 1) c.loop-j.invariant (rw e (cc)))

-- ---- all of them

pub returns : goal.returns
unfolding sound ids_ascend records_sound
returns c =
    let n = c.args.node.now in
    let clear : own_clear (record_at n n.me) ≡ true = cc in
    let elected : election_sound n n.election ≡ true = cc in
    let marks = passed_all n c.loop-i.i c.loop-i.least c.loop-i.invariant (omega arith) in
    let all : c.loop-k.k ≡ n.size = omega arith in
    let last : c.loop-j.j - 1 ≡ n.size - 1 = omega arith in
    sym (rw (whole n (omega arith) (omega arith) (omega arith), c.requires.0, rw last at c.loop-j.invariant, lt-ltb _ _ c.requires.1, rw all at c.loop-k.invariant, le-leb _ _ c.requires.2, elected, marks.1, marks.0) clear)
