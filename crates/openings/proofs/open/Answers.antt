-- `openings::open` meets its contract: past the refusals, the node with its clock moved is sound.
use mathlib.Core.Path.{sym, ◌∙◌}
use Rattle.answers.proofs.Checks.{unrefused}
use Rattle.openings.specs.Openings.{open_refusals}
use Rattle.openings.proofs.Steps.{arrives}
use Rattle.openings.proofs.Kept.{arrived_sound}
use Rattle.openings.proofs.open.Goals as goal

pub standing-requires : goal.standing-requires
standing-requires c =
    let a = c.args in
    rw c.with_clock.ensures (arrived_sound a.node a.slots.now a.time (arrives a.node a.slots.now a.time (λ k. unrefused k (open_refusals a.node a.slots.now a.time) (sym c.early_refusal.ensures ∙ c.in-Ok.is))))
