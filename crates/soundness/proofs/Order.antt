-- Laws that the code of `earlier` rests on: byte strings compared from a place on.
use mathlib.Core.Path.{◌≡◌}
use mathlib.Core.List.{List}
use Prim.Native.Nat.{ℕ, ◌+◌, ◌≤◌, ◌<◌}
use native.Mathlib.Numerals.{add-one}
use native.Mathlib.Decide.{dec_lt}
use native.Mathlib.Omega.{arith}
use lib.Dec.{ltb}
use lib.ListN.{length, drop, get_or}
use lib.Seq.{drop-cons}
use borrow.Author.Tests.{lt-ltb, le-ltb}
use Rattle.soundness.specs.Sound.{before}

module _ (a b : List ℕ) (i : ℕ) (ha : i < length a) (hb : i < length b) where
  pub other_at : (get_or a i 0 ≡ get_or b i 0 → ⊥) → before (drop i a) (drop i b) ≡ ltb (get_or a i 0) (get_or b i 0)
  unfolding before
  other_at h = go (dec_lt (get_or a i 0) (get_or b i 0))
    where
      go : Dec (get_or a i 0 < get_or b i 0) → before (drop i a) (drop i b) ≡ ltb (get_or a i 0) (get_or b i 0)
      go (yes l) = rw (drop-cons a i 0 ha, drop-cons b i 0 hb, lt-ltb _ _ l)
      go (no l) =
          let m : get_or b i 0 < get_or a i 0 = omega (arith, h) in
          let g : get_or b i 0 ≤ get_or a i 0 = omega arith in
          rw (drop-cons a i 0 ha, drop-cons b i 0 hb, le-ltb _ _ g, lt-ltb _ _ m)

  pub same_at : get_or a i 0 ≡ get_or b i 0 → before (drop i a) (drop i b) ≡ before (drop (i + 1) a) (drop (i + 1) b)
  unfolding before
  same_at e =
      let g : get_or b i 0 ≤ get_or b i 0 = omega arith in
      rw (add-one i, drop-cons a i 0 ha, drop-cons b i 0 hb, e, le-ltb _ _ g)
