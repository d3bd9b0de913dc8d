-- `openings::standing` meets its contract: the checks, then the opening.
use Rattle.std.specs.Prelude.{Err}
use mathlib.Core.Path.{◌≡◌, sym, ap, ◌∙◌}
use mathlib.Core.Bool.{true}
use mathlib.Core.List.{List}
use Prim.Native.Nat.{ℕ}
use native.Mathlib.Omega.{arith}
use borrow.Author.Tests.{lt-ltb}
use Rattle.tables.specs.Checks.{checked}
use Rattle.answers.specs.declared.Answer.TheVariants.{Done}
use Rattle.answers.specs.Refusing.{Check, cleared}
use Rattle.answers.proofs.Checks.{on_check, by_check}
use Rattle.state.specs.Node.{record_at}
use Rattle.state.specs.Outcomes.{answered}
use Rattle.state.specs.declared.Node.{Node}
use Rattle.soundness.specs.Sound.{sound}
use Rattle.soundness.proofs.Facts.{me_listed, few_nodes}
use Rattle.openings.specs.Openings.{open_checks, opening, standing}
use Rattle.openings.proofs.Kept.{followed_within}
use Rattle.openings.proofs.standing.Goals as goal

pub bounds-node-from : goal.bounds-node-from
bounds-node-from c = omega (arith, me_listed c.args.node c.requires, few_nodes c.args.node c.requires)

pub bounds-node-from-2 : goal.bounds-node-from-2
bounds-node-from-2 c = omega (arith, rw c.from.ensures at c.followed.ensures, followed_within c.args.node c.requires)

-- by what the checks of a sound node come to
told : (n : Node) (slots : List ℕ) → sound n ≡ true → (check : Check) → check ≡ checked Err (open_checks n slots (record_at n n.me).role) cleared → standing n slots ≡ on_check (answered n) (answered (opening n slots) Done) check
told n slots s check e = rw (lt-ltb n.me n.size (me_listed n s)) (by_check (answered n) (open_checks n slots (record_at n n.me).role) _ ∙ ap (on_check (answered n) _) (sym e))

pub returns-in-Err : goal.returns-in-Err
returns-in-Err c = sym (told c.args.node c.args.slots.now c.requires _ (rw c.from.ensures at c.open_refusal.ensures) ∙ rw c.in-Err.is)

pub returns-in-Ok : goal.returns-in-Ok
returns-in-Ok c = sym (told c.args.node c.args.slots.now c.requires _ (rw c.from.ensures at c.open_refusal.ensures) ∙ rw (c.in-Ok.is, ← c.opening.ensures))
