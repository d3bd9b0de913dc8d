-- `wins::won` meets its contract: records by their places, so that a number past them needs no case of its own.
use mathlib.Core.Path.{◌≡◌, refl, ap₂, ◌∙◌}
use native.Mathlib.Omega.{arith}
use lib.ListN.{length}
use Rattle.tables.specs.Sizes.{node_room}
use Rattle.state.specs.Changes.{with_records}
use Rattle.wins.proofs.Passing.{won_with, passing_there, promoted_there}
use Rattle.wins.proofs.won.Goals as goal

pub returns : goal.returns
unfolding with_records
returns c =
    let n = c.args.node in
    let long : length n.records ≡ node_room = omega arith in
    let me = c.from-me.ensures in
    let own = rw me at c.place_of-own.ensures in
    ap₂ won_with
    (c.with_election.ensures ∙ promoted_there n long c.args.epoch _ _ _ _ _ own refl c.with_role.ensures c.with_config-winner.ensures (rw me at c.kept_of.ensures))
    (c.take_over-count.ensures ∙ passing_there n long c.args.slots.now c.args.epoch _ _ _ _ _ _ own (rw me at c.known_of.ensures) c.own_role-role.ensures (c.from-old.ensures ∙ c.followed.ensures) c.place_of.ensures c.known_of-master.ensures)
