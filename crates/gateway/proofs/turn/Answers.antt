-- `gateway::turn` meets its contract.
use Rattle.std.proofs.Common.{◌∙◌, sym}
use Rattle.routing.specs.Replies.{reply}
use Rattle.lookups.specs.Keys.{slot_of}
use Rattle.cache.specs.Cache.{map_of, entry_at, held_epoch}
use Rattle.gateway.specs.Gateway.{turn}
use Rattle.gateway.proofs.Turns.{held_named}
use Rattle.gateway.proofs.turn.Goals as goal

pub returns-else-no_roster : goal.returns-else-no_roster
unfolding turn
returns-else-no_roster c =
    let map = map_of c.args.map.now c.args.epochs.now in
    rw (c.in-Asking.is, sym c.wrong_length.ensures ∙ c.if-wrong_length.false, sym c.no_roster.ensures ∙ c.if-no_roster.false)
    (c.heard.ensures ∙ rw (c.held_epoch-held.ensures, c.named.ensures) (held_named c.args.size (slot_of c.args.key) (λ s. held_epoch c.args.size (entry_at map s)) _ (reply c.args.redirect)))
