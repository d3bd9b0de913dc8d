-- `nodesets::among` meets its contract: the entries passed are in the set.
use Rattle.nodesets.proofs.Gathered.{Passed}
use Rattle.nodesets.proofs.among.Given as goal

abbrev pub invariant-loop-entry : goal.invariant-loop-entry
invariant-loop-entry l = Passed l.entries l.entry-index l.set
