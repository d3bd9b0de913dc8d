-- The lengths of the cached map's lists.
use Rattle.std.proofs.Common.{◌≡◌, false, not, [], ◌∷◌, eqb, length}
use borrow.Author.Tests.{eqb-true, not-false}
use Rattle.tables.specs.Sizes.{slot_count}
use Rattle.tables.proofs.Checks.{none}
use Rattle.cache.specs.Cache.{Map, wrong_length}

module _ (map : Map) where
  -- where neither is wrong, both lists have an entry for each slot
  pub right_length : wrong_length map ≡ false → (length map.owners ≡ slot_count) × (length map.epochs ≡ slot_count)
  unfolding wrong_length
  right_length e =
      let l = not (eqb (length map.owners) slot_count) ∷ not (eqb (length map.epochs) slot_count) ∷ [] in
      (eqb-true _ _ (not-false _ (none 0 l e)), eqb-true _ _ (not-false _ (none 1 l e)))
