-- What setting and clearing leave: the mark, or none, is found at its slot, at every other slot what was there, and the rest is kept.
use Rattle.std.specs.Prelude.{None, Some}
use mathlib.Core.Path.{◌≡◌, refl, ap, ◌∙◌}
use mathlib.Core.List.{List}
use Prim.Native.Nat.{ℕ, ◌<◌}
use native.Mathlib.Nat.{lt_of_lt_of_le}
use native.Mathlib.Omega.{arith}
use lib.ListN.{length, drop, length-take}
use lib.Seq.{take_at}
use Rattle.answers.specs.declared.Answer.TheVariants.{Done}
use Rattle.answers.proofs.Checks.{past}
use Rattle.state.specs.Changes.{with_marks}
use Rattle.state.specs.Outcomes.{answered}
use Rattle.state.specs.declared.Node.{Node}
use Rattle.state.specs.declared.Mark.{Mark}
use Rattle.state.specs.declared.Move.{Move}
use Rattle.state.specs.declared.Outcome.{Outcome}
use Rattle.marks.specs.Marks.{marks_of, marking_of, marking_at, remarked, others, insert}
use Rattle.marks.specs.MarkChanges.{set_mark, set_checks, marking, clear_mark, clear_checks, unmarking}
use Rattle.marks.specs.Marked.{Setting, Clearing}
use Rattle.marks.proofs.Lists.{others_free, others_fewer, taken_out, left_in, put_in, passed_by}
use Rattle.marks.proofs.Kept.{any, is_refusal, not_done, set_done, set_refused, set_marks_keep, set_sound, clear_done, clear_refused, clear_marks_keep, clear_sound}

-- the marks of a node whose marks were listed anew
anew : (n : Node) (ms : List Mark) → marks_of (remarked n ms) ≡ ms
unfolding with_marks
anew n ms = take_at ms (drop (length ms) n.marks) (length ms) refl

module _ (n : Node) (s : ℕ) where
  abbrev Same : ℕ → Outcome → Type 0
  Same t o = marking_at o.node t ≡ marking_at n t

  -- ---- setting

  set_found : (slots : List ℕ) (move : Move) → (set_mark n slots s move).answer ≡ Done → marking_at (set_mark n slots s move).node s ≡ Some move
  set_found slots move e =
      let m : Mark = record { slot = s; movement = move } in let r = others s (marks_of n) in
      ap (λ (o : Outcome). marking_at o.node s) (set_done n slots s move e) ∙ ap (marking_of s) (anew n (insert m r)) ∙ put_in m r (others_free s (marks_of n))

  set_elsewhere : (slots : List ℕ) (move : Move) (t : ℕ) → (t ≡ s → ⊥) → marking_at (set_mark n slots s move).node t ≡ marking_at n t
  unfolding set_mark
  set_elsewhere slots move t d =
      let m : Mark = record { slot = s; movement = move } in let r = others s (marks_of n) in
      past (Same t) any (answered n) (set_checks n slots s move) (answered (marking s move n) Done) refl (λ a q. refl)
      (λ f. ap (marking_of t) (anew n (insert m r)) ∙ passed_by m t r d ∙ left_in s t (marks_of n) d)

  -- ---- clearing

  clear_found : (clear_mark n s).answer ≡ Done → marking_at (clear_mark n s).node s ≡ None
  clear_found e =
      let r = others s (marks_of n) in
      ap (λ (o : Outcome). marking_at o.node s) (clear_done n s e) ∙ ap (marking_of s) (anew n r) ∙ taken_out s r (others_free s (marks_of n))

  clear_elsewhere : (t : ℕ) → (t ≡ s → ⊥) → marking_at (clear_mark n s).node t ≡ marking_at n t
  unfolding clear_mark
  clear_elsewhere t d =
      let r = others s (marks_of n) in
      past (Same t) any (answered n) (clear_checks n s) (answered (unmarking s n) Done) refl (λ a q. refl)
      (λ f. ap (marking_of t) (anew n r) ∙ left_in s t (marks_of n) d)

  -- cleared room is used again: there is one mark less, at least
  abbrev Fewer : Outcome → Type 0
  Fewer o = o.answer ≡ Done → o.node.marked < n.marked

  clear_makes_room : (clear_mark n s).answer ≡ Done → (clear_mark n s).node.marked < n.marked
  unfolding clear_mark with_marks
  clear_makes_room =
      past Fewer is_refusal (answered n) (clear_checks n s) (answered (unmarking s n) Done) refl not_done
      (λ f e. lt_of_lt_of_le (others_fewer s (marks_of n) (f 22)) (simp length-take (omega arith)))

-- ---- the statements

pub setting : (n : Node) (slots : List ℕ) (slot : ℕ) (move : Move) → Setting n slots slot move
setting n slots slot move = record {
  found = set_found n slot slots move;
  keeps = record {
    refused = set_refused n slots slot move;
    rest = set_marks_keep n slots slot move;
    elsewhere = set_elsewhere n slot slots move;
    stays_sound = λ h. set_sound n h slots slot move;
  };
}

pub clearing : (n : Node) (slot : ℕ) → Clearing n slot
clearing n slot = record {
  gone = clear_found n slot;
  room = clear_makes_room n slot;
  keeps = record {
    refused = clear_refused n slot;
    rest = clear_marks_keep n slot;
    elsewhere = clear_elsewhere n slot;
    stays_sound = λ h. clear_sound n h slot;
  };
}
