-- `tables::stands_in`: what was found so far, or stands in the rest.
use mathlib.Core.Path.{◌≡◌}
use mathlib.Core.Bool.{◌||◌}
use lib.ListN.{drop}
use Rattle.tables.specs.Lists.{occurs}
use Rattle.tables.proofs.stands_in.Given as goal

abbrev pub invariant-loop-entry : goal.invariant-loop-entry
invariant-loop-entry l = occurs l.stretch l.number ≡ (l.found || occurs (drop l.entry-index l.stretch) l.number)
