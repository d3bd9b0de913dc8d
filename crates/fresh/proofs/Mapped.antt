-- What an array's `map` gives, where each call gives a function of its argument.
use mathlib.Core.Path.{◌≡◌, sym, ◌∙◌}
use mathlib.Core.List.{List, map}
use Prim.Native.Nat.{ℕ}
use native.Mathlib.Omega.{arith}
use lib.ListN.{length, length-map, get_or-map}
use denote.Param.Members.{Mut, Called}
use Rattle.std.specs.Array.{IsMapOf}
use Rattle.std.proofs.lemmas.List.{ext_get_or}

pub mapped : {F A B : Type 0} (g : Mut F (A × Unit {0}) B) {f : F} {xs : List A} {ys : List B} {n : ℕ} (v : A → B) (d : A) → length xs ≡ n → IsMapOf g f xs ys n → ((p q : F) (x : A) (y : B) → Called g p (x, tt) y q → y ≡ v x) → ys ≡ map v xs
mapped g {f} {xs} {ys} {n} v d h m says =
    ext_get_or (v d) ys (map v xs) (m.long ∙ sym (length-map xs v ∙ h))
    (λ k l. says _ _ _ _ (m.at k d (v d) (omega (arith, m.long))).2 ∙ sym (get_or-map v xs k d))
