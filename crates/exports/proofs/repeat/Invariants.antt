-- `exports::repeat`: what is left is the line so many times more.
use Rattle.std.proofs.Common.{◌≡◌, ◌-◌}
use Rattle.exports.specs.Steps.{again}
use Rattle.exports.proofs.repeat.Given as goal

abbrev pub invariant-loop-turn : goal.invariant-loop-turn
invariant-loop-turn l =
    again l.times l.line (record { outcome = l.initial.outcome; slots = l.initial.slots; reports = l.initial.reports })
    ≡ again (l.times - l._turn) l.line (record { outcome = l.outcome; slots = l.slots; reports = l.reports })
