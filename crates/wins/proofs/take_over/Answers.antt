-- `wins::take_over` meets its contract.
use mathlib.Core.Path.{refl}
use mathlib.Core.Bool.{false}
use borrow.Author.Tests.{lt-ltb}
use Rattle.wins.specs.Wins.{passes}
use Rattle.wins.proofs.Passing.{none_handed_over, none_pass}
use Rattle.wins.proofs.take_over.Goals as goal

pub returns-then-config-epoch : goal.returns-then-config-epoch
returns-then-config-epoch c = let a = c.args in
    none_handed_over (passes a.role a.config a.epoch) a.me a.slots.now (λ owner. none_pass a.role a.config a.epoch owner c.if-config-epoch.true)

pub returns-in-Master : goal.returns-in-Master
returns-in-Master c = let a = c.args in rw c.in-Master.is (none_handed_over (λ owner. false) a.me a.slots.now (λ owner. refl))

pub returns-in-Replica : goal.returns-in-Replica
returns-in-Replica c = rw (c.in-Replica.is, ← c.from.ensures, lt-ltb _ _ c.if-config-epoch.false) c.pass_on.ensures
