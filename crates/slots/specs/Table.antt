-- What the code's table of remainders must be, for the function that divides by it; that the table is so is proved.
use Rattle.std.specs.Prelude.{ℕ, ◌+◌, ◌*◌, ◌^◌, ◌<◌, ◌≡◌, List, get_or}
use Rattle.slots.specs.Key.{with_bits}

pub record ByHalfByte (table : List ℕ) : Type 0 where
  -- at 16 × place + k, what sixteen bits make of the half byte k that stands alone at that place of the remainder
  pub entry : (place k : ℕ) → place < 4 → k < 16 → get_or table (16 * place + k) 0 ≡ with_bits 16 (k * 16 ^ place)
