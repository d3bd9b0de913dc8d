-- `engines::hand`: what is left is the heartbeat so many times more.
use Rattle.std.proofs.Common.{◌≡◌, ◌-◌}
use Rattle.engines.specs.Engines.{again}
use Rattle.engines.proofs.hand.Given as goal

abbrev pub invariant-loop-turn : goal.invariant-loop-turn
invariant-loop-turn g l =
    let engine = g.E.Engine.rule l.bitmap l.sender l.said l.config in
    again engine l.times (record { outcome = l.initial.outcome; slots = l.initial.slots })
    ≡ again engine (l.times - l._turn) (record { outcome = l.outcome; slots = l.slots })
