-- `engines::tell` meets its contract: the numbers are taken from the records, one by one.
use Prim.Native.Nat.{◌+◌}
use Rattle.tables.specs.Sizes.{node_room}
use Rattle.engines.specs.Engines.{config_of, role_number_of}
use Rattle.engines.proofs.Numbers.{Taken}
use Rattle.engines.proofs.tell.Given as goal

abbrev pub invariant-loop-k : goal.invariant-loop-k
invariant-loop-k l =
    Taken config_of l.node.records (node_room + 1) l.configs l.k × Taken role_number_of l.node.records node_room l.numbers l.k
