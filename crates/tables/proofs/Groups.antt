-- Bits in groups of one width, as a set has them in words and a bitmap in bytes: those of the first group, and those of the rest.
use mathlib.Core.Path.{◌≡◌, sym, ap, ◌∙◌}
use mathlib.Core.List.{List, ◌∷◌}
use Prim.Native.Nat.{ℕ, suc, ◌+◌, ◌/◌, ◌%◌, ◌<◌}
use native.Mathlib.Nat.{add-div_left, add-mod_left, div-eq_of_lt, mod-eq_of_lt}
use native.Mathlib.Numerals.{add-one, one-add}
use lib.Dec.{eqb}
use lib.ListN.{get_or}
use lib.Pow.{shr-shr}
use Rattle.tables.specs.Sets.{bit}

pub first_group : (width w : ℕ) (ws : List ℕ) (k : ℕ) → k < width → bit (get_or (w ∷ ws) (k / width) 0) (k % width) ≡ bit w k
first_group width w ws k h = rw (div-eq_of_lt h, mod-eq_of_lt h)

pub later_group : (width : ℕ) → 0 < width → (w : ℕ) (ws : List ℕ) (k : ℕ) → bit (get_or (w ∷ ws) ((width + k) / width) 0) ((width + k) % width) ≡ bit (get_or ws (k / width) 0) (k % width)
later_group width h w ws k = rw (add-div_left k h, add-mod_left width k, add-one (k / width))

-- the bits above the lowest
pub bit_half : (w k : ℕ) → bit (w / 2) k ≡ bit w (1 + k)
bit_half w k = ap (λ (x : ℕ). eqb (x % 2) 1) (shr-shr w 1 k)

pub bit_suc : (w k : ℕ) → bit w (suc k) ≡ bit (w / 2) k
bit_suc w k = sym (bit_half w k ∙ ap (bit w) (one-add k))
