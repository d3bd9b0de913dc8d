-- A roster's size, which is a number of a node's kind, and more.
use Rattle.std.specs.Prelude.{Ok, Err, Some, None}
use Rattle.std.specs.Result.{result_ok}
use mathlib.Core.Path.{◌≡◌, refl}
use mathlib.Core.Bool.{Bool, true, false, cond}
use mathlib.Core.List.{List}
use Prim.Native.Nat.{ℕ, ◌<◌}
use native.Mathlib.Omega.{arith}
use lib.Dec.{leb}
use borrow.Author.Tests.{leb-false, le-leb, lt-leb}
use Rattle.words.specs.Numbers.{number_of, value, between}

-- the number, where it is one of a node's kind
pub says : (word : List ℕ) (v : ℕ) → Some v ≡ result_ok (number_of word 110) → v ≡ value word
unfolding number_of
says word v e = by (between 0 255 (value word)) e
  where
    by : (t : Bool) → Some v ≡ result_ok (cond t (Ok (value word)) (Err (value word))) → v ≡ value word
    by true f = cc
    by false f = cc

never : (s : Bool) → cond s false false ≡ false
never true = refl
never false = refl

-- and no size, where it is none
pub no_size : (word : List ℕ) → None ≡ result_ok (number_of word 110) → between 1 64 (value word) ≡ false
unfolding number_of
no_size word e = by (leb (value word) 255) refl e
  where
    by : (t : Bool) → leb (value word) 255 ≡ t → None ≡ result_ok (cond (cond (leb 0 (value word)) t false) (Ok (value word)) (Err (value word))) → between 1 64 (value word) ≡ false
    by true d f = let g = rw (le-leb 0 (value word) (omega arith)) at f in cc
    by false d f =
        let high : 64 < value word = omega (arith, leb-false (value word) 255 d) in
        rw (lt-leb (value word) 64 high) (never (leb 1 (value word)))
