-- The call by its checks: past 1 and 7 it is the listing.
use mathlib.Core.Path.{◌≡◌, refl}
use mathlib.Core.Bool.{Bool, true, false}
use mathlib.Core.List.{List}
use Prim.Native.Nat.{ℕ}
use lib.Dec.{eqb}
use lib.ListN.{length}
use borrow.Author.Tests.{eq-eqb}
use Rattle.tables.specs.Sizes.{slot_count}
use Rattle.answers.specs.Answers.{number}
use Rattle.state.specs.declared.Node.{Node}
use Rattle.soundness.specs.Sound.{sound}
use Rattle.listing.proofs.Laws.{answer_laws}
use Rattle.ranges.specs.Ranges.{ranges}
use Rattle.ranges.specs.Laws.{RangesLaws}

pub ranges_laws : (n : Node) (slots list : List ℕ) → RangesLaws n slots list
unfolding ranges
ranges_laws n slots list = record { taken = λ l s. rw (eq-eqb (length slots) slot_count l, s); refused = refused (eqb (length slots) slot_count) refl (sound n) refl }
  where
    refused : (t : Bool) → eqb (length slots) slot_count ≡ t → (u : Bool) → sound n ≡ u → (number (ranges n slots list).answer ≡ 0 → ⊥) → (ranges n slots list).list ≡ list
    refused false p u q z = rw p
    refused true p false q z = rw (p, q)
    refused true p true q z = rw (p, q) ((answer_laws n.size slots list).refused (rw (p, q) at z))
