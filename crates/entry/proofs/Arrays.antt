-- Laws that the code of `arrays_sound` rests on: the marks passed one after the other.
use mathlib.Core.Path.{◌≡◌, refl, sym, ap}
use mathlib.Core.Bool.{true, false}
use Prim.Native.Nat.{ℕ, zero, suc, ◌+◌, ◌-◌, ◌≤◌, ◌<◌}
use native.Mathlib.Numerals.{add-one}
use native.Mathlib.Omega.{arith}
use borrow.Author.Tests.{lt-ltb, le-ltb}
use Rattle.tables.specs.Below.{every}
use Rattle.tables.proofs.Below.{every_fails, every_more}
use Rattle.state.specs.Node.{mark_at}
use Rattle.state.specs.declared.Node.{Node}
use Rattle.soundness.specs.Sound.{mark_sound_at, marks_sound, slot_in_order, marks_ascend}

-- ---- marks

-- the first k marks are sound and ascend, and the next one's slot must not be below `least`
pub record Passed (n : Node) (k least : ℕ) : Type 0 where
  pub sound_marks : every k (mark_sound_at n) ≡ true
  pub ascending : every (k - 1) (slot_in_order n) ≡ true
  pub floor : (j : ℕ) → k ≡ suc j → least ≡ (mark_at n j).slot + 1
  pub none_yet : k ≡ 0 → least ≡ 0

module _ (n : Node) where
  pub passed_none : Passed n 0 0
  unfolding every
  passed_none = record { sound_marks = refl; ascending = refl; floor = λ j e. absurd (omega arith); none_yet = λ e. refl }

  -- the floor of no marks is 0, which is below no slot; of some it is the slot after the last one's
  climbs : (k least : ℕ) → ((j : ℕ) → k ≡ suc j → least ≡ (mark_at n j).slot + 1) → least ≤ (mark_at n k).slot → every (k - 1) (slot_in_order n) ≡ true → every k (slot_in_order n) ≡ true
  unfolding every
  climbs zero least f l e = refl
  climbs (suc j) least f l e = let q : least ≡ (mark_at n j).slot + 1 = f j refl in let r : suc j - 1 ≡ j = omega arith in rw (lt-ltb (mark_at n j).slot (mark_at n (j + 1)).slot (rw (add-one j) (omega arith))) (rw r at e)

  pub passed_more : (k least : ℕ) → Passed n k least → mark_sound_at n k ≡ true → least ≤ (mark_at n k).slot → Passed n (k + 1) ((mark_at n k).slot + 1)
  passed_more k least p s l = record {
    sound_marks = every_more (mark_sound_at n) k p.sound_marks s;
    ascending = let q : k + 1 - 1 ≡ k = omega arith in rw q (climbs k least p.floor l p.ascending);
    floor = λ j e. let q : k ≡ j = omega arith in ap (λ (i : ℕ). (mark_at n i).slot + 1) q;
    none_yet = λ e. absurd (omega arith);
  }

  -- a slot below that breaks the order
  pub passed_low : (k least : ℕ) → Passed n k least → k < n.marked → (mark_at n k).slot < least → false ≡ marks_ascend n
  unfolding marks_ascend
  passed_low zero least p h l = let q : least ≡ 0 = p.none_yet refl in absurd (omega arith)
  passed_low (suc j) least p h l = let q : least ≡ (mark_at n j).slot + 1 = p.floor j refl in every_fails (slot_in_order n) (n.marked - 1) j (omega arith) (le-ltb (mark_at n j).slot (mark_at n (j + 1)).slot (rw (add-one j) (omega arith)))

  pub passed_all : (k least : ℕ) → Passed n k least → k ≡ n.marked → (marks_sound n ≡ true) × (marks_ascend n ≡ true)
  unfolding marks_sound marks_ascend
  passed_all k least p e = (rw (sym e) p.sound_marks, rw (sym e) p.ascending)
