-- The theorem: the invariant holds of a fresh node and is kept, and each call shows its part.
use mathlib.Core.Path.{◌≡◌, ap}
use mathlib.Core.Logic.{◌⊎◌, inl, inr}
use mathlib.Core.List.{List, [], ◌∷◌, ◌++◌}
use Prim.Native.Nat.{ℕ, ◌<◌}
use native.Mathlib.Nat.{le_refl, le_trans}
use native.Mathlib.Omega.{arith}
use lib.ListN.{get_or-map}
use Rattle.tables.specs.Sizes.{slot_count}
use Rattle.state.specs.declared.Record.{Record}
use Rattle.state.specs.declared.Role.TheVariants.{Master}
use Rattle.fresh.specs.Fresh.{newcomer, fresh_node}
use Rattle.node.specs.Calls.{Tables, Call}
use Rattle.safety.specs.Demand3.{Roster}
use Rattle.monotone.specs.Runs.{World, after, run, fresh}
use Rattle.monotone.specs.NeverSlidesBack.{owner, Owned, owners_epoch, PassesUp, Onward, StillOwned, NeverSlidesBack, OwnershipNeverSlidesBack}
use Rattle.monotone.proofs.Onward.{ReplicaAtZero}
use Rattle.monotone.proofs.Calls.{call_moves}

-- one call
still : (a b : World) (s : ℕ) → Onward a b → s < slot_count → Owned a s → StillOwned a b s
still a b s x l o = by (x.owners s l o)
  where
    by : (owner b s ≡ owner a s) ⊎ PassesUp a b s → StillOwned a b s
    by (inl e) = record { owned = rw (e, x.size) o; not_lower = rw (e, owners_epoch) (x.epochs (owner a s)) }
    by (inr p) = record { owned = p.owned; not_lower = let q = p.above in omega (arith, q) }

-- one stretch after another
then : {a b c : World} {s : ℕ} → StillOwned a b s → StillOwned b c s → StillOwned a c s
then p q = record { owned = q.owned; not_lower = le_trans p.not_lower q.not_lower }

module _ (start : World) (h : ReplicaAtZero start.node) where
  at_zero : (cs : List Call) → ReplicaAtZero (run after start cs).node
  at_zero [] = h
  at_zero (c ∷ cs) = (call_moves (run after start cs) c (at_zero cs)).at_zero

  each_call : (cs : List Call) (c : Call) → Onward (run after start cs) (run after start (c ∷ cs))
  each_call cs c = (call_moves (run after start cs) c (at_zero cs)).onward

  never : NeverSlidesBack after start
  never [] earlier s l o = record { owned = o; not_lower = le_refl _ }
  never (c ∷ later) earlier s l o =
      let p = never later earlier s l o in
      then p (still _ _ s (each_call (later ++ earlier) c) l p.owned)

-- a fresh node knows no configEpoch
fresh_at_zero : (r : Roster) (me timeout : ℕ) (t : Tables) → ReplicaAtZero (fresh r me timeout t).node
unfolding fresh_node
fresh_at_zero r me timeout t f = ap (λ (x : Record). x.config) (get_or-map newcomer r.roles me Master)

pub ownership_never_slides_back : (r : Roster) (me timeout : ℕ) (t : Tables) → OwnershipNeverSlidesBack r me timeout t
ownership_never_slides_back r me timeout t = record {
  each_call = each_call (fresh r me timeout t) (fresh_at_zero r me timeout t);
  never = never (fresh r me timeout t) (fresh_at_zero r me timeout t);
}
