-- `seats::flags`: the numbers are taken from the records, one by one.
use native.Mathlib.Omega.{arith}
use borrow.Author.Rules.{rules}
use Rattle.state.specs.Node.{blank}
use Rattle.seats.specs.Seats.{flag_of}
use Rattle.fresh.proofs.Mapped.{mapped}
use Rattle.seats.proofs.flags.Goals as goal

pub returns : goal.returns
returns c = mapped _ flag_of blank (omega arith) c.map.ensures.items (λ p q x y k. search rules)
