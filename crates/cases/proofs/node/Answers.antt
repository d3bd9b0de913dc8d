-- `cases::node`: the node of the cases, as its ids and roles are set.
use Rattle.cases.specs.Cases.{cases_node}
use Rattle.cases.proofs.node.Goals as goal

pub returns : goal.returns
unfolding cases_node
returns c = rw (c.id-4.ensures, c.id-3.ensures, c.id-2.ensures, c.id.ensures, c.id-ids.ensures) at c.node.ensures
