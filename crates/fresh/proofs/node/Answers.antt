-- `fresh::node` meets its contract: the records are made from the roles, one by one.
use native.Mathlib.Omega.{arith}
use borrow.Author.Rules.{rules}
use Rattle.state.specs.declared.Role.TheVariants.{Master}
use Rattle.fresh.specs.Fresh.{newcomer, fresh_node}
use Rattle.fresh.proofs.Mapped.{mapped}
use Rattle.fresh.proofs.node.Goals as goal

pub returns : goal.returns
unfolding fresh_node
returns c = rw (mapped _ newcomer Master (omega arith) c.map-records.ensures.items (λ p q x y k. search rules))
