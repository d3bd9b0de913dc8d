-- What setting and clearing a mark keep: a sound state stays sound, nothing but the marks changes, a refusal changes nothing.
use mathlib.Core.Path.{◌≡◌, refl, ap, ◌∙◌}
use mathlib.Core.Bool.{Bool, true}
use mathlib.Core.List.{List, ◌++◌}
use Prim.Native.Nat.{ℕ, suc, ◌-◌, ◌≤◌, ◌<◌}
use native.Mathlib.Numerals.{add-one}
use native.Mathlib.Omega.{arith}
use lib.ListN.{length, drop, get_or-append, length-append, length-drop}
use lib.Seq.{get_or-take, length-take-le}
use borrow.Author.Tests.{lt-ltb, ltb-true, leb-false, not-false}
use Rattle.tables.specs.Sizes.{slot_count, mark_room}
use Rattle.tables.specs.Checks.{checked}
use Rattle.tables.proofs.Below.{gather}
use lib.Dec.{ltb}
use Rattle.answers.specs.Answers.{number}
use Rattle.answers.specs.declared.Answer.{Answer}
use Rattle.answers.specs.declared.Answer.TheVariants.{Done}
use Rattle.answers.proofs.Checks.{past, refusals_pass}
use Rattle.state.specs.Node.{no_mark, listed, peer_of}
use Rattle.state.specs.Changes.{with_marks}
use Rattle.state.specs.Outcomes.{answered}
use Rattle.state.specs.declared.Node.{Node}
use Rattle.state.specs.declared.Mark.{Mark}
use Rattle.state.specs.declared.Move.{Move}
use Rattle.state.specs.declared.Outcome.{Outcome}
use Rattle.soundness.specs.Sound.{sound, mark_sound, mark_sound_at, marks_sound, marks_ascend, slot_in_order}
use Rattle.soundness.proofs.Facts.{all_marks, few_marks, marks_ordered, mark_is_sound}
use Rattle.soundness.proofs.Kept.{marks_sound_lem}
use Rattle.marks.specs.Marks.{marks_of, remarked, others, insert, ButMarks}
use Rattle.marks.specs.MarkChanges.{set_mark, set_checks, marking, clear_mark, clear_checks, unmarking}
use Rattle.marks.proofs.Loops.{length_insert}
use Rattle.marks.proofs.Lists.{Above, All, above_of, of_above, all_of, of_all, others_above, others_all, others_free, others_few, insert_above, insert_all}

-- of refusals that all keep what is said, any will do
abbrev pub any : Answer → Bool
any a = true

-- ---- the marks of a sound state, as a list

module _ (n : Node) (h : sound n ≡ true) where
  pub marks_count : length (marks_of n) ≡ n.marked
  marks_count = length-take-le n.marked n.marks (omega (arith, all_marks n h, few_marks n h))

  pub in_order : Above 0 (marks_of n)
  in_order = above_of 0 (marks_of n) (λ _. omega arith) (λ k g.
      let i : k < n.marked = omega (arith, marks_count) in let j : suc k < n.marked = omega (arith, marks_count) in
      rw (get_or-take n.marked n.marks k no_mark i, get_or-take n.marked n.marks (suc k) no_mark j)
      (rw add-one at (marks_ordered n h k (omega (arith, marks_count)))))

  pub all_sound : All (mark_sound n.size n.me) (marks_of n)
  all_sound = all_of (mark_sound n.size n.me) (marks_of n) (λ k g.
      let i : k < n.marked = omega (arith, marks_count) in
      rw (get_or-take n.marked n.marks k no_mark i) (mark_is_sound n h k i))

  -- and back
  remarked_sound : (ms : List Mark) → length ms ≤ mark_room → Above 0 ms → All (mark_sound n.size n.me) ms → sound (remarked n ms) ≡ true
  unfolding with_marks marks_ascend marks_sound
  remarked_sound ms l a s =
      marks_sound_lem n h (ms ++ drop (length ms) n.marks) (length ms) (length-append ms _ ∙ rw length-drop (omega (arith, all_marks n h))) l
      (gather (slot_in_order (remarked n ms)) (length ms - 1) (λ k g.
      let i : k < length ms = omega arith in let j : suc k < length ms = omega arith in
      rw (add-one k, get_or-append ms (drop (length ms) n.marks) no_mark k i, get_or-append ms (drop (length ms) n.marks) no_mark (suc k) j) (lt-ltb _ _ (of_above 0 ms a k j))))
      (gather (mark_sound_at (remarked n ms)) (length ms) (λ k g.
      rw (get_or-append ms (drop (length ms) n.marks) no_mark k g) (of_all (mark_sound n.size n.me) ms s k g)))

  -- ---- a sound state stays sound

  abbrev Sound : Outcome → Type 0
  Sound o = sound o.node ≡ true

  pub set_sound : (slots : List ℕ) (s : ℕ) (move : Move) → sound (set_mark n slots s move).node ≡ true
  unfolding set_mark
  set_sound slots s move = past Sound any (answered n) (set_checks n slots s move) (answered (marking s move n) Done) refl (λ a q. h) (λ f.
      let x : Mark = record { slot = s; movement = move } in let r = others s (marks_of n) in let p = mark_sound n.size n.me in
      let l : length r < mark_room = leb-false mark_room (length r) (f 20) in
      let i : s < slot_count = leb-false slot_count s (f 21) in
      remarked_sound (insert x r) (rw (length_insert x r) (omega (arith, l)))
      (insert_above x 0 r (omega arith) (others_free s (marks_of n)) (others_above s 0 (marks_of n) in_order))
      (insert_all x p r (rw (lt-ltb s slot_count i, not-false (listed n (peer_of move)) (f 3), f 6)) (others_all s p (marks_of n) all_sound)))

  pub clear_sound : (s : ℕ) → sound (clear_mark n s).node ≡ true
  unfolding clear_mark
  clear_sound s = past Sound any (answered n) (clear_checks n s) (answered (unmarking s n) Done) refl (λ a q. h) (λ f.
      remarked_sound (others s (marks_of n)) (omega (arith, others_few s (marks_of n), marks_count, few_marks n h))
      (others_above s 0 (marks_of n) in_order)
      (others_all s (mark_sound n.size n.me) (marks_of n) all_sound))

-- ---- nothing but the marks changes

abbrev Keeps : Node → Outcome → Type 0
Keeps n o = ButMarks n o.node

pub set_marks_keep : (n : Node) (slots : List ℕ) (s : ℕ) (move : Move) → ButMarks n (set_mark n slots s move).node
unfolding set_mark with_marks
set_marks_keep n slots s move = past (Keeps n) any (answered n) (set_checks n slots s move) (answered (marking s move n) Done) refl (λ a q. refl) (λ f. refl)

pub clear_marks_keep : (n : Node) (s : ℕ) → ButMarks n (clear_mark n s).node
unfolding clear_mark with_marks
clear_marks_keep n s = past (Keeps n) any (answered n) (clear_checks n s) (answered (unmarking s n) Done) refl (λ a q. refl) (λ f. refl)

-- ---- done, or refused with nothing changed

-- no refusal's number is 0
abbrev pub is_refusal : Answer → Bool
is_refusal a = ltb 0 (number a)

pub not_done : {A : Type 0} (a : Answer) → is_refusal a ≡ true → a ≡ Done → A
not_done a q e = absurd (omega (arith, ap number e, ltb-true 0 (number a) q))

module _ (n x : Node) (rows : List (Bool × Answer)) where
  abbrev out : Outcome
  out = checked (answered n) rows (answered x Done)

  done : refusals_pass is_refusal rows ≡ true → out.answer ≡ Done → out ≡ answered x Done
  done all = past (λ (o : Outcome). o.answer ≡ Done → o ≡ answered x Done) is_refusal (answered n) rows (answered x Done) all (λ a q e. not_done a q e) (λ f e. refl)

  refusal : refusals_pass any rows ≡ true → (out.answer ≡ Done → ⊥) → out.node ≡ n
  refusal all = past (λ (o : Outcome). (o.answer ≡ Done → ⊥) → o.node ≡ n) any (answered n) rows (answered x Done) all (λ a q d. refl) (λ f d. absurd (d refl))

module _ (n : Node) (slots : List ℕ) (s : ℕ) (move : Move) where
  pub set_done : (set_mark n slots s move).answer ≡ Done → set_mark n slots s move ≡ answered (marking s move n) Done
  unfolding set_mark
  set_done = done n (marking s move n) (set_checks n slots s move) refl

  pub set_refused : ((set_mark n slots s move).answer ≡ Done → ⊥) → (set_mark n slots s move).node ≡ n
  unfolding set_mark
  set_refused = refusal n (marking s move n) (set_checks n slots s move) refl

module _ (n : Node) (s : ℕ) where
  pub clear_done : (clear_mark n s).answer ≡ Done → clear_mark n s ≡ answered (unmarking s n) Done
  unfolding clear_mark
  clear_done = done n (unmarking s n) (clear_checks n s) refl

  pub clear_refused : ((clear_mark n s).answer ≡ Done → ⊥) → (clear_mark n s).node ≡ n
  unfolding clear_mark
  clear_refused = refusal n (unmarking s n) (clear_checks n s) refl
