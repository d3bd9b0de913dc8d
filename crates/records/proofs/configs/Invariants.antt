-- `records::configs` meets its contract: those of the nodes below k are collected.
use Rattle.records.proofs.Known.{Collected}
use Rattle.records.proofs.configs.Given as goal

abbrev pub invariant-loop-k : goal.invariant-loop-k
invariant-loop-k l = Collected l.records l.configs l.k
