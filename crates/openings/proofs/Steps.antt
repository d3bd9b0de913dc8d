-- An opening by its cases, for any statement about the outcome.
use mathlib.Core.Path.{◌≡◌, refl}
use mathlib.Core.Bool.{Bool, true, false}
use mathlib.Core.List.{List}
use Prim.Native.Nat.{ℕ, ◌≤◌, ◌<◌}
use lib.Dec.{T}
use lib.ListN.{length}
use borrow.Author.Tests.{leb-false, ltb-false, eqb-true, not-false}
use Rattle.tables.specs.Sizes.{slot_count, time_end}
use Rattle.answers.specs.declared.Answer.{Answer}
use Rattle.answers.specs.declared.Answer.TheVariants.{Done}
use Rattle.answers.proofs.Checks.{refuses, test_for, past}
use Rattle.state.specs.Node.{role_at}
use Rattle.state.specs.Changes.{with_clock}
use Rattle.state.specs.Outcomes.{answered}
use Rattle.state.specs.declared.Node.{Node}
use Rattle.state.specs.declared.Outcome.{Outcome}
use Rattle.soundness.specs.Sound.{sound}
use Rattle.openings.specs.Openings.{open_refusals, open_checks, opening, opens}

module _ (n : Node) (slots : List ℕ) (time : ℕ) where
  -- past 1, 7, 5 and 4
  pub record Arrives : Type 0 where
    pub long : length slots ≡ slot_count
    pub sounds : sound n ≡ true
    pub bounded : time < time_end
    pub onward : n.clock ≤ time

  pub arrives : ((a : ℕ) → test_for a (open_refusals n slots time) ≡ false) → Arrives
  arrives p = record { long = eqb-true _ _ (not-false _ (p 1)); sounds = not-false _ (p 7); bounded = leb-false time_end time (p 5); onward = ltb-false time n.clock (p 4) }

  -- the node with its clock moved, and the checks that it has then to pass
  abbrev pub moved : Node
  moved = with_clock time n

  abbrev pub rows : List (Bool × Answer)
  rows = open_checks moved slots (role_at moved n.me)

  pub open_cases : (P : Outcome → Type 0)
      → ((a : Answer) → T (refuses a) → P (answered n a))
      → (Arrives → (a : Answer) → T (refuses a) → P (answered moved a))
      → (Arrives → ((a : ℕ) → test_for a rows ≡ false) → P (answered (opening moved slots) Done))
      → P (opens n slots time)
  unfolding opens with_clock
  open_cases P refused late done =
      past P refuses (answered n) (open_refusals n slots time) _ refl (λ a e. refused a (rw e tt)) λ p.
      past P refuses (answered moved) rows _ refl (λ a e. late (arrives p) a (rw e tt)) (done (arrives p))
