-- The words behind `held`; a walk, by the questions that are left.
use mathlib.Core.Path.{◌≡◌, refl, sym, subst}
use mathlib.Core.Bool.{Bool, true, false}
use mathlib.Core.List.{List, [], ◌∷◌}
use Prim.Native.Nat.{ℕ, zero, suc, ◌≤◌}
use native.Mathlib.Omega.{arith}
use lib.Dec.{eqb}
use Rattle.std.proofs.Common.{◌==◌, ◌||◌, cond}
use Rattle.std.specs.List.{list_any}
use Rattle.seats.specs.declared.Seat.{Seat}
use Rattle.calls.specs.declared.Call.{Call}
use Rattle.lookups.specs.declared.Question.{Question}
use Rattle.lookups.specs.declared.End.{End}
use Rattle.lookups.specs.declared.Stage.{Stage}
use Rattle.lookups.specs.declared.Stage.TheVariants.{Asking, Ended}
use Rattle.lookups.specs.declared.Lookup.{Lookup}
use Rattle.cache.specs.Cache.{Map}
use Rattle.gateway.specs.Gateway.{Taken, asked}
use Rattle.walks.specs.Walks.{node_of, table_of, among, holds, questioned, walked}

-- one of the words says a number: as the code looks for it
pub list_any-among : (k : ℕ) (numbers : List ℕ) → list_any (λ (n : ℕ). n == k) numbers ≡ among k numbers
unfolding among
list_any-among k [] = refl
list_any-among k (n ∷ numbers) = elim (eqb n k) as (λ (b : Bool). (b || list_any (λ (n : ℕ). n == k) numbers) ≡ cond b true (among k numbers)) [ true ↦ refl | false ↦ list_any-among k numbers ]

-- a walk over the nodes of a run
module _ (seats : List Seat) (slots : List ℕ) (call : Call) (size : ℕ) where
  abbrev Step : ℕ → Lookup → Map → Taken → Stage → Type 0
  Step n l map t s = walked seats slots call size n (questioned seats slots call size s l map).lookup (questioned seats slots call size s l map).map ≡ t

  -- none is left
  pub no_question : (n : ℕ) (l : Lookup) (map : Map) → n ≤ 0 → walked seats slots call size n l map ≡ record { lookup = l; map = map }
  unfolding walked
  no_question n l map h = let z : n ≡ 0 = omega arith in rw z

  -- a lookup that has ended stays as it ended
  pub ended : (n : ℕ) (l : Lookup) (map : Map) (end : End) → l.stage ≡ Ended end → walked seats slots call size n l map ≡ record { lookup = l; map = map }
  unfolding walked
  ended zero l map end e = refl
  ended (suc n) l map end e = subst (Step n l map (record { lookup = l; map = map })) (sym e) (ended n l map end e)

  -- what a question leaves to be walked
  pub one_question : (n left : ℕ) (l : Lookup) (map : Map) (q : Question) (t : Taken)
      → n ≡ suc left → l.stage ≡ Asking q
      → t ≡ asked l map size (node_of seats q.node) (table_of slots q.node) (holds call q.node)
      → walked seats slots call size n l map ≡ walked seats slots call size left t.lookup t.map
  unfolding walked
  one_question n left l map q t one e h =
      subst (λ (m : ℕ). walked seats slots call size m l map ≡ walked seats slots call size left t.lookup t.map) (sym one)
      (subst (Step left l map (walked seats slots call size left t.lookup t.map)) (sym e) (rw h))
