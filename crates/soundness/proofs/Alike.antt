-- No rule reads past the roster's size or the marks' count: of two nodes in the same state, both are sound or neither.
use mathlib.Core.Path.{◌≡◌, refl, sym, ap, ap₂, ◌∙◌}
use mathlib.Core.Bool.{Bool, true, false}
use Prim.Native.Nat.{ℕ, ◌+◌, ◌-◌, ◌<◌}
use native.Mathlib.Omega.{arith}
use lib.ListN.{get_or}
use lib.Seq.{get_or-take}
use lib.Dec.{ltb}
use borrow.Author.Tests.{ltb-true}
use Rattle.tables.specs.Checks.{all_of}
use Rattle.tables.specs.Below.{every}
use Rattle.tables.proofs.Checks.{fails}
use Rattle.tables.proofs.Below.{every_same}
use Rattle.state.specs.Node.{id_at, record_at, mark_at, no_id, blank, no_mark}
use Rattle.state.specs.Same.{Held, Same}
use Rattle.state.specs.declared.Node.{Node}
use Rattle.state.specs.declared.Record.{Record}
use Rattle.soundness.specs.Sound.{sound, sound_checks, arrays_whole, bounds_kept, ids_ascend, id_in_order, records_sound, record_sound_at, election_sound, marks_ascend, slot_in_order, marks_sound, mark_sound_at}
use Rattle.soundness.specs.SoundStates.{SameSound}
use Rattle.soundness.proofs.Kept.{election_like}

module _ (a b : Node) (e : Same a b) where
  size_is : a.size ≡ b.size
  size_is = ap (λ (x : Held). x.size) e

  marked_is : a.marked ≡ b.marked
  marked_is = ap (λ (x : Held). x.marked) e

  me_is : a.me ≡ b.me
  me_is = ap (λ (x : Held). x.me) e

  clock_is : a.clock ≡ b.clock
  clock_is = ap (λ (x : Held). x.clock) e

  current_is : a.current ≡ b.current
  current_is = ap (λ (x : Held). x.current) e

  -- ---- the arrays, as far as they are part of the state

  pub id_is : (k : ℕ) → k < a.size → id_at a k ≡ id_at b k
  id_is k h =
      let g : k < b.size = omega (arith, size_is) in
      sym (get_or-take a.size a.ids k no_id h) ∙ ap (λ (x : Held). get_or x.ids k no_id) e ∙ get_or-take b.size b.ids k no_id g

  pub record_is : (k : ℕ) → k < a.size → record_at a k ≡ record_at b k
  record_is k h =
      let g : k < b.size = omega (arith, size_is) in
      sym (get_or-take a.size a.records k blank h) ∙ ap (λ (x : Held). get_or x.records k blank) e ∙ get_or-take b.size b.records k blank g

  pub mark_is : (k : ℕ) → k < a.marked → mark_at a k ≡ mark_at b k
  mark_is k h =
      let g : k < b.marked = omega (arith, marked_is) in
      sym (get_or-take a.marked a.marks k no_mark h) ∙ ap (λ (x : Held). get_or x.marks k no_mark) e ∙ get_or-take b.marked b.marks k no_mark g

  -- ---- the tests

  bounds_same : bounds_kept a ≡ bounds_kept b
  unfolding bounds_kept
  bounds_same = let t = ap (λ (x : Held). x.timeout) e in rw (t, clock_is, current_is, size_is, marked_is)

  ids_same : ids_ascend a ≡ ids_ascend b
  unfolding ids_ascend
  ids_same =
      every_same (id_in_order a) (id_in_order b) (a.size - 1) (λ k h. rw (id_is k (omega arith), id_is (k + 1) (omega arith)))
      ∙ ap (λ (n : ℕ). every (n - 1) (id_in_order b)) size_is

  records_same : records_sound a ≡ records_sound b
  unfolding records_sound
  records_same =
      every_same (record_sound_at a) (record_sound_at b) a.size (λ k h. rw (record_is k h, size_is, clock_is, current_is))
      ∙ ap (λ (n : ℕ). every n (record_sound_at b)) size_is

  slots_same : marks_ascend a ≡ marks_ascend b
  unfolding marks_ascend
  slots_same =
      every_same (slot_in_order a) (slot_in_order b) (a.marked - 1) (λ k h. rw (mark_is k (omega arith), mark_is (k + 1) (omega arith)))
      ∙ ap (λ (n : ℕ). every (n - 1) (slot_in_order b)) marked_is

  marks_same : marks_sound a ≡ marks_sound b
  unfolding marks_sound
  marks_same =
      every_same (mark_sound_at a) (mark_sound_at b) a.marked (λ k h. rw (mark_is k h, size_is, me_is))
      ∙ ap (λ (n : ℕ). every n (mark_sound_at b)) marked_is

  -- ---- all of them

  checks_same : arrays_whole a ≡ arrays_whole b → a.me < a.size → sound_checks a ≡ sound_checks b
  checks_same whole h =
      let own : record_at a a.me ≡ record_at b b.me = record_is a.me h ∙ ap (record_at b) me_is in
      let x : election_sound a a.election ≡ election_sound b b.election = election_like a b size_is clock_is current_is (ap (λ (k : Record). k.role) own) a.election ∙ ap (λ (y : Held). election_sound b y.election) e in
      let v = ap (λ (y : Held). y.voted) e in
      rw (whole, bounds_same, ids_same, records_same, x, slots_same, marks_same, own, v, current_is, me_is, size_is)

-- the arrays of both are whole, or of neither
pub alike_sound : (a b : Node) → Same a b → arrays_whole a ≡ arrays_whole b → sound a ≡ sound b
unfolding sound
alike_sound a b e whole = by (ltb a.me a.size) refl
  where
    by : (t : Bool) → t ≡ ltb a.me a.size → all_of (sound_checks a) ≡ all_of (sound_checks b)
    by true f = ap all_of (checks_same a b e whole (ltb-true a.me a.size (sym f)))
    by false f = sym (fails 3 (sound_checks a) (sym f)) ∙ fails 3 (sound_checks b) (sym (f ∙ ap₂ ltb (me_is a b e) (size_is a b e)))

pub same_sound : (a b : Node) → SameSound a b
same_sound a b wa wb e = alike_sound a b e (wa ∙ sym wb)
