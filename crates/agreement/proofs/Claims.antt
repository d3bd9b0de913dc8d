-- The claims slot by slot: after every turn, what was done with what is left comes to the whole claim.
use Rattle.std.specs.Prelude.{None, Option, Some}
use mathlib.Core.Path.{◌≡◌, refl}
use mathlib.Core.Bool.{Bool, true, false, cond}
use mathlib.Core.List.{List}
use Prim.Native.Nat.{ℕ, zero, suc, ◌+◌, ◌≤◌, ◌<◌}
use native.Mathlib.Numerals.{add-one}
use native.Mathlib.Omega.{arith}
use lib.Dec.{eqb, ltb}
use lib.ListN.{length, get_or}
use borrow.Author.Tests.{ltb-true}
use Rattle.tables.specs.Sets.{claimed}
use Rattle.state.specs.Node.{record_at}
use Rattle.state.specs.declared.Node.{Node}
use Rattle.records.specs.Known.{known_configs}
use Rattle.records.proofs.Known.{known_config}
use Rattle.ownership.specs.Claim.{Claimant, Claimed, claimant, fate, fate_at, or_else, claim}
use Rattle.ownership.specs.declared.Fate.{Fate}
use Rattle.ownership.specs.declared.Fate.TheVariants.{Bound, Rebound, Stale, Stays}
use Rattle.ownership.proofs.Walk as walk
use Rattle.ownership.proofs.Walk.{Stands}
use Rattle.heartbeats.specs.Heartbeats.{claimed_by}
use Rattle.slotwise.specs.Slotwise.{SoFar, nothing, binds, rebinds, first_of, finds_stale, one_slot, slots_below, all_slots}

-- a stale slot is named if none was before
first_of_lem : (z : Option ℕ) (s : ℕ) → first_of z s ≡ or_else z (Some s)
first_of_lem None s = refl
first_of_lem (Some t) s = refl

abbrev entry : ℕ → SoFar → ℕ
entry s w = get_or w.slots s 0

-- what the fate of slot s does
abbrev done : ℕ → Fate → ℕ → SoFar → SoFar
done sender Bound s w = binds sender s w
done sender Rebound s w = rebinds sender s w
done sender Stale s w = finds_stale s w
done sender Stays s w = w

-- the entry of a listed node: the sender itself, one of a lesser configEpoch, one of a greater
listed_done : (own less greater : Bool) (sender s : ℕ) (w : SoFar)
    → cond own w (cond less (rebinds sender s w) (cond greater (finds_stale s w) w))
    ≡ done sender (cond own Stays (cond less Rebound (cond greater Stale Stays))) s w
listed_done true less greater sender s w = refl
listed_done false true greater sender s w = refl
listed_done false false true sender s w = refl
listed_done false false false sender s w = refl

module _ (n : Node) (sender config : ℕ) (bitmap : List ℕ) where
  -- who claims, as ownership has it
  abbrev who : Claimant
  who = claimant (known_configs n.size n.records) n.size sender config

  -- slot s after its turn: a claimed one by its entry's fate
  abbrev by_fate : ℕ → SoFar → SoFar
  by_fate s w = cond (claimed bitmap s) (done sender (fate who (entry s w)) s w) w

  turn_by_fate : (s : ℕ) (w : SoFar) → one_slot n sender config bitmap s w ≡ by_fate s w
  unfolding one_slot fate
  turn_by_fate s w = by (claimed bitmap s) (ltb (entry s w) n.size) refl refl
    where
      by : (c l : Bool) → claimed bitmap s ≡ c → ltb (entry s w) n.size ≡ l → one_slot n sender config bitmap s w ≡ by_fate s w
      by false l t e = rw t
      by true false t e = rw (t, e)
      by true true t e =
          let known = (record_at n (entry s w)).config in
          rw (t, e, known_config n.size n.records (entry s w) (ltb-true (entry s w) n.size e))
          (listed_done (eqb (entry s w) sender) (ltb known config) (ltb config known) sender s w)

  module _ (slots : List ℕ) where
    -- where the walk stands at slot s
    abbrev StandsAt : ℕ → SoFar → Type 0
    StandsAt s w =
        Stands who bitmap (claim who bitmap slots) (length slots) s w.slots w.tally.bound w.tally.rebound w.tally.stale

    turned : (s : ℕ) (w : SoFar) → s < length slots → StandsAt s w → StandsAt (s + 1) (one_slot n sender config bitmap s w)
    turned s w h i = rw (turn_by_fate s w) (by (claimed bitmap s) refl)
      where
        inside : s < length w.slots
        inside = omega (arith, i.long)

        fated : claimed bitmap s ≡ true → (φ : Fate) → fate who (entry s w) ≡ φ → StandsAt (s + 1) (done sender φ s w)
        fated t Bound e = walk.binds i inside t e
        fated t Rebound e = walk.rebinds i inside t e
        fated t Stale e = walk.tells i inside t (first_of_lem w.tally.stale s) e
        fated t Stays e = walk.keeps i inside t e

        -- from s on to the next, only s itself is passed
        stays : claimed bitmap s ≡ false → (k : ℕ) → s ≤ k → k < s + 1 → fate_at who bitmap k (entry k w) ≡ Stays
        stays t k a b = let q : k ≡ s = omega arith in walk.unclaimed who bitmap k (entry k w) (rw q t)

        by : (t : Bool) → claimed bitmap s ≡ t → StandsAt (s + 1) (cond t (done sender (fate who (entry s w)) s w) w)
        by true t = fated t (fate who (entry s w)) refl
        by false t = walk.passes i (omega arith) (λ k a b l. stays t k a b)

    reached : (s : ℕ) → s ≤ length slots → StandsAt s (slots_below n sender config bitmap s (record { tally = nothing; slots = slots }))
    unfolding slots_below
    reached zero h = walk.begin
    reached (suc s) h = rw (← add-one s) (turned s _ (omega arith) (reached s (omega arith)))

    -- at the end the counts and the table are the claim's
    abbrev left : Claimed
    left = record { tally = (all_slots n sender config bitmap slots).tally; slots = (all_slots n sender config bitmap slots).slots }

    pub same_claims : left ≡ claimed_by sender config bitmap n slots
    same_claims = let i = reached (length slots) (omega arith) in walk.finish i (omega (arith, i.long))
