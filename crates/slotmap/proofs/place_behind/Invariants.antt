-- `slotmap::place_behind`: a line and a character for each byte at most.
use Prim.Native.Nat.{◌+◌, ◌≤◌}
use Rattle.slotmap.proofs.place_behind.Given as goal

abbrev pub invariant-loop-byte : goal.invariant-loop-byte
invariant-loop-byte l = (l.line ≤ l.byte-index + 1) × (l.character ≤ l.byte-index + 1)
