-- `hexdigits::all_digits`: good says that every character so far is a digit.
use mathlib.Core.Path.{◌≡◌}
use mathlib.Core.Bool.{◌&&◌}
use lib.ListN.{drop}
use Rattle.hexdigits.specs.Hex.{all_digits}
use Rattle.hexdigits.proofs.all_digits.Given as goal

abbrev pub invariant-loop-c : goal.invariant-loop-c
invariant-loop-c l = all_digits l.line ≡ (l.good && all_digits (drop l.c-index l.line))
