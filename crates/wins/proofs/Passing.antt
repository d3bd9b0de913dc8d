-- Which slots pass at a win.
use Rattle.std.specs.Prelude.{None}
use mathlib.Core.Path.{◌≡◌, refl, sym, ap, subst, ◌∙◌}
use mathlib.Core.Bool.{Bool, true, false, not, cond, ◌&&◌}
use mathlib.Core.List.{List}
use Prim.Native.Nat.{ℕ, ◌≤◌, ◌<◌}
use native.Mathlib.Nat.{zero-add}
use lib.Dec.{eqb, ltb}
use lib.ListN.{length, get_or, set}
use borrow.Author.Tests.{eq-eqb, ne_eqb, eqb-true, lt-ltb, le-ltb, ltb-true}
use Rattle.tables.specs.Lists.{changed_from}
use Rattle.tables.specs.Sizes.{node_room}
use Rattle.tables.proofs.Checks.{never}
use Rattle.tables.proofs.Walks.{map_kept, count_none, mapped_at, counts_agree}
use Rattle.answers.specs.declared.Answer.TheVariants.{Won}
use Rattle.state.specs.Node.{blank, record_at, role_at, followed}
use Rattle.state.specs.Changes.{with_role, with_config, with_records, with_election}
use Rattle.state.specs.Outcomes.{answered, Slotted}
use Rattle.state.specs.declared.Node.{Node}
use Rattle.state.specs.declared.Record.{Record}
use Rattle.state.specs.declared.Role.{Role}
use Rattle.state.specs.declared.Role.TheVariants.{Master, Replica}
use Rattle.records.specs.Known.{in_room, place_of}
use Rattle.records.proofs.Known.{known_there, changed_there}
use Rattle.wins.specs.Wins.{passes, Passing, handed_over, yields, passing, winner, promoted}

abbrev pub passing_of : ℕ → List ℕ → Passing
passing_of count slots = record { count = count; slots = slots }

-- where no owner is such, nothing is handed over
pub none_handed_over : (such : ℕ → Bool) (new : ℕ) (slots : List ℕ) → ((owner : ℕ) → such owner ≡ false) → passing_of 0 slots ≡ handed_over such new slots
none_handed_over such new slots h = rw (map_kept (λ s owner. cond (such owner) new owner) 0 slots (λ s owner l m. rw (h owner)), count_none (λ s owner. such owner) 0 slots (λ s owner l m. h owner))

-- at the election's epoch, or above it, nothing passes
pub none_pass : (role : Role) (config epoch owner : ℕ) → epoch ≤ config → passes role config epoch owner ≡ false
none_pass Master config epoch owner h = refl
none_pass (Replica old) config epoch owner h = rw (le-ltb config epoch h)

-- a slot passes from the old master alone, and only if that one is below the election's epoch
from_old : (role : Role) (config epoch owner : ℕ) → passes role config epoch owner ≡ true → (role ≡ Replica owner) × (config < epoch)
from_old Master config epoch owner e = never (sym e)
from_old (Replica old) config epoch owner e = by (ltb config epoch) refl e
  where
    by : (b : Bool) → ltb config epoch ≡ b → (b && eqb owner old) ≡ true → (Replica old ≡ Replica owner) × (config < epoch)
    by true l q = (ap Replica (sym (eqb-true owner old q)), ltb-true config epoch l)
    by false l q = never (sym q)

-- the same by what this node knows, both ways
module _ (n : Node) (epoch owner : ℕ) where
  pub from_old_master : yields n epoch owner ≡ true → (role_at n n.me ≡ Replica owner) × ((record_at n owner).config < epoch)
  from_old_master e =
      let role = role_at n n.me in
      let p = from_old role (record_at n (followed role)).config epoch owner e in
      (p.0, subst (λ (r : Role). (record_at n (followed r)).config < epoch) p.0 p.1)

  pub yields_if : role_at n n.me ≡ Replica owner → (record_at n owner).config < epoch → yields n epoch owner ≡ true
  yields_if e l =
      ap (λ (r : Role). passes r (record_at n (followed r)).config epoch owner) e
      ∙ rw (lt-ltb (record_at n owner).config epoch l) (eq-eqb owner owner refl)

-- where no owner that is such is the new one, those handed over are the entries that changed
pub handed_over_changed : (such : ℕ → Bool) (new : ℕ) (slots : List ℕ) → ((owner : ℕ) → such owner ≡ true → owner ≡ new → ⊥)
    → (handed_over such new slots).count ≡ changed_from (λ owner. true) slots (handed_over such new slots).slots
handed_over_changed such new slots f =
    counts_agree _ _ 0 0 slots (λ k h. rw (zero-add k, mapped_at (λ s owner. cond (such owner) new owner) 0 slots k 0 0 h) (by (get_or slots k 0) (such (get_or slots k 0)) refl))
  where
    by : (owner : ℕ) (b : Bool) → such owner ≡ b → b ≡ not (eqb owner (cond b new owner))
    by owner true e = rw (ne_eqb owner new (f owner e))
    by owner false e = rw (eq-eqb owner owner refl)

-- ---- a win by the places of the records

abbrev pub won_with : Node → Passing → Slotted
won_with n p = record { outcome = answered n (Won p.count); slots = p.slots }

module _ (n : Node) (room : length n.records ≡ node_room) where
  -- own and master are what is known of this node and of its old master, by the records at their places
  pub passing_there : (slots : List ℕ) (epoch own-place old old-place : ℕ) (own master : Record) (role : Role)
      → own-place ≡ place_of n.me → own ≡ in_room n.me (get_or n.records own-place blank) blank → role ≡ cond (ltb n.me n.size) own.role Master
      → old ≡ followed role → old-place ≡ place_of old → master ≡ in_room old (get_or n.records old-place blank) blank
      → handed_over (passes role master.config epoch) n.me slots ≡ passing n slots epoch
  passing_there slots epoch own-place old old-place own master role ep eo er el eq em =
      let r : role ≡ role_at n n.me = er ∙ rw (eo, ep, known_there n.records room n.me) in
      rw (em, eq, known_there n.records room old, el, r)

  pub promoted_there : (epoch at : ℕ) (there master won kept : Record)
      → at ≡ place_of n.me → there ≡ get_or n.records at blank → master ≡ with_role Master there → won ≡ with_config epoch master → kept ≡ in_room n.me won there
      → with_election None (with_records (set n.records at kept) n) ≡ promoted epoch n
  unfolding promoted
  promoted_there epoch at there master won kept ea et em ew ek = rw (ek, ew, em, et, ea) (ap (λ (rs : List Record). with_election None (with_records rs n)) (changed_there n.records room n.me (winner epoch)))
