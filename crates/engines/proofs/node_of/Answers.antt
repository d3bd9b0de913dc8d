-- `engines::node_of` meets its contract: the nodes below k are as they are lent.
use mathlib.Core.Path.{◌≡◌, refl, sym, ap, ◌∙◌}
use Prim.Native.Nat.{ℕ}
use native.Mathlib.Omega.{arith}
use lib.ListN.{get_or, replicate}
use Rattle.tables.specs.Below.{in_turn}
use Rattle.tables.proofs.Below.{in_turn_more}
use Rattle.tables.specs.Sizes.{node_room}
use Rattle.state.specs.Changes.{with_records, with_current}
use Rattle.state.specs.declared.Role.TheVariants.{Master}
use Rattle.fresh.specs.Fresh.{fresh_node, ids_of}
use Rattle.engines.specs.Engines.{lent_at, node_of}
use Rattle.engines.proofs.node_of.Goals as goal

pub loop-k-init : goal.loop-k-init
unfolding in_turn
loop-k-init c = refl

pub loop-k-preserved : goal.loop-k-preserved
unfolding with_records
loop-k-preserved c =
    let lent = lent_at c.args.epochs.now c.args.roles.now in
    rw c.known_of.ensures (ap (lent c.loop-k.k) c.loop-k.invariant ∙ sym (in_turn_more lent c.loop-k.k _))

pub returns : goal.returns
unfolding node_of with_current
returns c =
    let e : c.loop-k.k ≡ node_room = omega arith in
    let made : c.node-next.result ≡ fresh_node (ids_of node_room) (replicate node_room Master) c.args.size c.args.me 1000 = rw (← c.ids.ensures) c.node-next.ensures in
    let lent = in_turn (lent_at c.args.epochs.now c.args.roles.now) in
    ap (with_current (get_or c.args.epochs.now node_room 0)) (c.loop-k.invariant ∙ ap (λ (k : ℕ). lent k c.node-next.result) e ∙ ap (lent node_room) made)
