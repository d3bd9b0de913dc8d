-- `heartbeats::of_master` meets its contract: the sender's record, its claims, and the tie.
use mathlib.Core.Path.{◌≡◌, refl, sym, ◌∙◌}
use native.Mathlib.Omega.{arith}
use lib.ListN.{length, set, length-set}
use Rattle.tables.specs.Sizes.{node_room}
use Rattle.state.specs.Changes.{with_records, with_current}
use Rattle.state.specs.declared.Role.TheVariants.{Master}
use Rattle.heartbeats.proofs.Steps.{sender_changed, not_tied, new_epoch, master_heard}
use Rattle.heartbeats.proofs.of_master.Goals as goal

pub returns-then-ties : goal.returns-then-ties
unfolding with_records with_current
returns-then-ties c =
    let a = c.args in
    let room : length a.node.records ≡ node_room = omega arith in
    let heard-room = length-set a.node.records c.place_of-from.result c.kept_of.result ∙ room in
    master_heard _ _ _ a.sender a.config (with_records (set a.node.records c.place_of-from.result c.kept_of.result) a.node) _ _ _ _
    (sender_changed a.node room a.sender a.config Master _ _ _ _ c.place_of-from.ensures refl c.heard_of-heard.ensures c.kept_of.ensures)
    c.configs-configs.ensures
    (rw c.from.ensures at c.claim-tally.ensures)
    (new_epoch a.sender a.config _ heard-room (sym c.ties.ensures ∙ c.if-ties.true) _ _ _ _ c.place_of-at.ensures refl c.with_config-bumped.ensures c.kept_of-then-ties.ensures)

pub returns-else-ties : goal.returns-else-ties
unfolding with_records
returns-else-ties c =
    let a = c.args in
    let room : length a.node.records ≡ node_room = omega arith in
    master_heard _ _ _ a.sender a.config (with_records (set a.node.records c.place_of-from.result c.kept_of.result) a.node) _ _ _ _
    (sender_changed a.node room a.sender a.config Master _ _ _ _ c.place_of-from.ensures refl c.heard_of-heard.ensures c.kept_of.ensures)
    c.configs-configs.ensures
    (rw c.from.ensures at c.claim-tally.ensures)
    (not_tied a.sender a.config _ (sym c.ties.ensures ∙ c.if-ties.false))
