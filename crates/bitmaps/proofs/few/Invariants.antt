-- `bitmaps::few`: the word is that of the bytes from place i on.
use mathlib.Core.Path.{◌≡◌}
use Prim.Native.Nat.{◌*◌, ◌≤◌}
use Rattle.tables.specs.Sets.{claimed, word_of}
use Rattle.bitmaps.proofs.few.Given as goal

abbrev pub invariant-loop-i : goal.invariant-loop-i
invariant-loop-i l = record { from : l.k ≤ l.i; word : l.word ≡ word_of (claimed l.bitmap) (8 * l.i) 64 }
