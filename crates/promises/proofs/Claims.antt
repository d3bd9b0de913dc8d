-- A heartbeat's claims in the words of the node before the frame.
use mathlib.Core.Path.{◌≡◌, refl, sym, ap, fun_ext}
use mathlib.Core.Bool.{Bool, true, false, cond, not}
use mathlib.Core.List.{List, [], ◌∷◌}
use Prim.Native.Nat.{ℕ}
use native.Mathlib.Omega.{arith}
use lib.Dec.{eqb, ltb}
use borrow.Author.Tests.{eqb-false, ltb-true, le-ltb}
use Rattle.tables.specs.Checks.{all_of, any_of}
use Rattle.tables.specs.Lists.{map_at, first_at}
use Rattle.tables.specs.Sets.{claimed}
use Rattle.tables.proofs.Walks.{map_kept}
use Rattle.state.specs.Node.{record_at, listed}
use Rattle.state.specs.Changes.{with_records}
use Rattle.state.specs.declared.Node.{Node}
use Rattle.state.specs.declared.Role.{Role}
use Rattle.state.specs.declared.Role.TheVariants.{Master, Replica}
use Rattle.records.specs.Known.{known_configs}
use Rattle.ownership.specs.Claim.{Claimant, claimant, known, fate, fate_at, entry_after, is_stale, claim}
use Rattle.ownership.specs.declared.Fate.{Fate}
use Rattle.ownership.specs.declared.Fate.TheVariants.{Bound, Rebound, Stale, Stays}
use Rattle.heartbeats.specs.Heartbeats.{with_sender, heartbeat}
use Rattle.heartbeats.proofs.Frame.{known_before}
use Rattle.promises.specs.Claims.{goes, stale_at, slots_after}

-- the claim of a master's heartbeat
abbrev pub claimant_of : Node → ℕ → ℕ → Claimant
claimant_of n sender config = let heard = with_sender sender Master config n in claimant (known_configs heard.size heard.records) heard.size sender config

module _ (n : Node) (bitmap : List ℕ) (sender config : ℕ) where
  abbrev c : Claimant
  c = claimant_of n sender config

  -- a fate by tests of the entry: it is listed, it is the sender, its configEpoch is less than the frame's, or greater
  abbrev by_tests : Bool → Bool → Bool → Bool → Fate
  by_tests l e x y = cond l (cond e Stays (cond x Rebound (cond y Stale Stays))) Bound

  abbrev less : ℕ → Bool
  less o = ltb (record_at n o).config config

  abbrev greater : ℕ → Bool
  greater o = ltb config (record_at n o).config

  -- of others than the sender the claim knows what the node knew before the frame
  fate_is : (o : ℕ) → fate c o ≡ by_tests (listed n o) (eqb o sender) (less o) (greater o)
  unfolding fate with_sender with_records
  fate_is o = by (ltb o n.size) (eqb o sender) refl refl
    where
      by : (l e : Bool) → ltb o n.size ≡ l → eqb o sender ≡ e → by_tests l e (ltb (known c o) config) (ltb config (known c o)) ≡ by_tests l e (less o) (greater o)
      by true true p q = refl
      by true false p q = rw (known_before n sender config o (eqb-false o sender q) (ltb-true o n.size p))
      by false e p q = refl

  -- the entry after it
  entry_by : (b l e x y : Bool) (o : ℕ) → entry_after c (cond b (by_tests l e x y) Stays) o ≡ cond (all_of (b ∷ any_of (not l ∷ all_of (all_of (l ∷ not e ∷ []) ∷ x ∷ []) ∷ []) ∷ [])) sender o
  entry_by false l e x y o = refl
  entry_by true false e x y o = refl
  entry_by true true true x y o = refl
  entry_by true true false true y o = refl
  entry_by true true false false true o = refl
  entry_by true true false false false o = refl

  entry_is : (s o : ℕ) → entry_after c (fate_at c bitmap s o) o ≡ cond (goes n bitmap sender Master config s o) sender o
  entry_is s o = rw (fate_is o) (entry_by (claimed bitmap s) (listed n o) (eqb o sender) (less o) (greater o) o)

  -- where the sender is stale; no configEpoch is both less and greater
  stale_by : (b l e x y : Bool) → (x ≡ true → y ≡ false) → is_stale (cond b (by_tests l e x y) Stays) ≡ all_of (b ∷ all_of (l ∷ not e ∷ []) ∷ y ∷ [])
  stale_by false l e x y f = refl
  stale_by true false e x y f = refl
  stale_by true true true x y f = refl
  stale_by true true false true y f = sym (f refl)
  stale_by true true false false true f = refl
  stale_by true true false false false f = refl

  stale_is : (s o : ℕ) → is_stale (fate_at c bitmap s o) ≡ stale_at n bitmap sender Master config s o
  stale_is s o = rw (fate_is o) (stale_by (claimed bitmap s) (listed n o) (eqb o sender) (less o) (greater o) (λ e. let l = ltb-true (record_at n o).config config e in le-ltb config (record_at n o).config (omega arith)))

-- ---- the table after a heartbeat, and the lowest stale slot

module _ (n : Node) (slots bitmap : List ℕ) (sender config : ℕ) where
  pub table_after : (role : Role) → (heartbeat n slots bitmap sender role config).slots ≡ slots_after n bitmap sender role config slots
  unfolding heartbeat claim
  table_after Master = ap (λ (f : ℕ → ℕ → ℕ). map_at f slots) (fun_ext (λ s. fun_ext (entry_is n bitmap sender config s)))
  table_after (Replica m) = sym (map_kept (λ (s o : ℕ). o) 0 slots (λ k x h g. refl))

  pub stale_lowest : (claim (claimant_of n sender config) bitmap slots).tally.stale ≡ first_at (stale_at n bitmap sender Master config) slots
  unfolding claim
  stale_lowest = ap (λ (p : ℕ → ℕ → Bool). first_at p slots) (fun_ext (λ s. fun_ext (stale_is n bitmap sender config s)))
