-- Every key has a slot of the table.
use Prim.Native.Nat.{ℕ, ◌<◌}
use native.Mathlib.Omega.{arith}
use mathlib.Core.List.{List}
use Rattle.tables.specs.Sizes.{slot_count}
use Rattle.slots.specs.Key.{key_slot}

pub key_slot_below : (key : List ℕ) → key_slot key < slot_count
unfolding key_slot
key_slot_below key = omega arith
