-- `walks::look_up`: the map is what the walk leaves.
use mathlib.Core.Path.{◌∙◌, ap}
use Rattle.gateway.specs.Gateway.{Taken}
use Rattle.walks.proofs.look_up.Goals as goal

pub returns-clause-looked_up : goal.returns-clause-looked_up
returns-clause-looked_up c =
    record { key = c.key_of-key.result; map = ap (λ (t : Taken). t.map) c.walk-walked.ensures.taken ∙ rw (c.start-lookup.ensures, c.short-roster.ensures) }
