-- The slots one after the other: each case of one slot as the code comes to it.
use Rattle.std.specs.Prelude.{None, Option, Some}
use Rattle.std.specs.Option.{option_or}
use mathlib.Core.Path.{◌≡◌, refl, sym, ap, ◌∙◌}
use mathlib.Core.Bool.{true, false}
use mathlib.Core.List.{List}
use Prim.Native.Nat.{ℕ, ◌+◌, ◌≤◌, ◌<◌}
use native.Mathlib.Numerals.{add-one}
use native.Mathlib.Omega.{arith}
use lib.ListN.{get_or, set}
use lib.Seq.{set-get_or}
use borrow.Author.Tests.{lt-ltb, le-ltb, eq-eqb, ne_eqb}
use Rattle.state.specs.Node.{record_at}
use Rattle.state.specs.declared.Node.{Node}
use Rattle.slotwise.specs.Slotwise.{is_claimed, SoFar, nothing, first_of, one_slot, slots_below}

abbrev at : List ℕ → ℕ → ℕ → Option ℕ → SoFar
at l b r z = record { tally = record { bound = b; rebound = r; stale = z }; slots = l }

or_first : (z : Option ℕ) (s : ℕ) → option_or z (Some s) ≡ first_of z s
or_first None s = refl
or_first (Some t) s = refl

-- ---- the loop's invariant: the slots below s are done

pub record Goes (n : Node) (sender config : ℕ) (bitmap l₀ : List ℕ) (s : ℕ) (l : List ℕ) (b r : ℕ) (z : Option ℕ) : Type 0 where
  pub bounds : b ≤ s
  pub rebounds : r ≤ s
  pub is : at l b r z ≡ slots_below n sender config bitmap s (record { tally = nothing; slots = l₀ })

module _ {n : Node} {sender config : ℕ} {bitmap l₀ : List ℕ} where
  pub starts : Goes n sender config bitmap l₀ 0 l₀ 0 0 None
  unfolding slots_below
  starts = record { bounds = omega arith; rebounds = omega arith; is = refl }

  module _ {s : ℕ} {l : List ℕ} {b r : ℕ} {z : Option ℕ} (g : Goes n sender config bitmap l₀ s l b r z) where
    -- a slot's turn that comes to w
    on : (w : SoFar) → one_slot n sender config bitmap s (at l b r z) ≡ w → w ≡ slots_below n sender config bitmap (s + 1) (record { tally = nothing; slots = l₀ })
    unfolding slots_below
    on w e = sym e ∙ ap (one_slot n sender config bitmap s) g.is ∙ rw (add-one s)

    -- the table and the counts stay: the entry is written back
    stays : one_slot n sender config bitmap s (at l b r z) ≡ at l b r z → Goes n sender config bitmap l₀ (s + 1) (set l s (get_or l s 0)) b r z
    stays e = rw (set-get_or l s 0) (record { bounds = omega (arith, g.bounds); rebounds = omega (arith, g.rebounds); is = on (at l b r z) e })

    pub unclaimed : is_claimed bitmap s ≡ false → Goes n sender config bitmap l₀ (s + 1) (set l s (get_or l s 0)) b r z
    unfolding one_slot
    unclaimed f = stays (rw f)

    module _ (c : is_claimed bitmap s ≡ true) where
      pub binds : n.size ≤ get_or l s 0 → Goes n sender config bitmap l₀ (s + 1) (set l s sender) (b + 1) r z
      unfolding one_slot
      binds h = record {
        bounds = omega (arith, g.bounds);
        rebounds = omega (arith, g.rebounds);
        is = on (at (set l s sender) (b + 1) r z) (rw (c, le-ltb _ _ h));
      }

      module _ (h : get_or l s 0 < n.size) where
        pub own : get_or l s 0 ≡ sender → Goes n sender config bitmap l₀ (s + 1) (set l s (get_or l s 0)) b r z
        unfolding one_slot
        own e = stays (rw (c, lt-ltb _ _ h, eq-eqb _ _ e))

        module _ (a : get_or l s 0 ≡ sender → ⊥) {known : ℕ} (k : known ≡ (record_at n (get_or l s 0)).config) where
          pub rebinds : known < config → Goes n sender config bitmap l₀ (s + 1) (set l s sender) b (r + 1) z
          unfolding one_slot
          rebinds u = record {
            bounds = omega (arith, g.bounds);
            rebounds = omega (arith, g.rebounds);
            is = on (at (set l s sender) b (r + 1) z) (rw (c, lt-ltb _ _ h, ne_eqb _ _ a, ← k, lt-ltb _ _ u));
          }

          pub tells : {z' : Option ℕ} → z' ≡ option_or z (Some s) → config ≤ known → config < known → Goes n sender config bitmap l₀ (s + 1) (set l s (get_or l s 0)) b r z'
          unfolding one_slot
          tells {z'} q u v =
              rw (set-get_or l s 0) (record {
                bounds = omega (arith, g.bounds);
                rebounds = omega (arith, g.rebounds);
                is = on (at l b r z') (rw (c, lt-ltb _ _ h, ne_eqb _ _ a, ← k, le-ltb _ _ u, lt-ltb _ _ v, q, or_first z s));
              })

          pub keeps : config ≤ known → known ≤ config → Goes n sender config bitmap l₀ (s + 1) (set l s (get_or l s 0)) b r z
          unfolding one_slot
          keeps u v = stays (rw (c, lt-ltb _ _ h, ne_eqb _ _ a, ← k, le-ltb _ _ u, le-ltb _ _ v))
