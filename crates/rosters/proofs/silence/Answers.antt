-- `rosters::silence` meets its contract: so many nodes below k + 2 are silent.
use mathlib.Core.Path.{◌≡◌, refl, sym, ap, ◌∙◌}
use Prim.Native.Nat.{ℕ}
use native.Mathlib.Omega.{arith}
use Rattle.tables.specs.Below.{in_turn}
use Rattle.tables.proofs.Below.{in_turn_more}
use Rattle.state.specs.Changes.{with_records}
use Rattle.rosters.specs.Rosters.{silenced_next, silenced, room}
use Rattle.rosters.proofs.silence.Goals as goal

pub loop-k-init : goal.loop-k-init
unfolding in_turn
loop-k-init c = refl

pub loop-k-preserved : goal.loop-k-preserved
unfolding with_records
loop-k-preserved c =
    let l = c.loop-k in
    rw (c.silent.ensures, c.from-at.ensures) (ap (silenced_next l.k) l.invariant ∙ sym (in_turn_more silenced_next l.k _))

pub returns : goal.returns
unfolding silenced
returns c =
    let l = c.loop-k in
    let e : l.k ≡ room c.args.count = omega arith in
    l.invariant ∙ ap (λ (k : ℕ). in_turn silenced_next k c.args.node) e
