-- `gateway::take` meets its contract: what each call gives, put together.
use Rattle.routing.specs.Replies.{reply}
use Rattle.lookups.specs.Keys.{slot_of}
use Rattle.cache.specs.Cache.{map_of, wrong_length, entry_at, held_epoch}
use Rattle.gateway.specs.Gateway.{taken}
use Rattle.gateway.proofs.Turns.{named_turn}
use Rattle.gateway.proofs.take.Goals as goal

pub returns : goal.returns
unfolding taken
returns c = let map = map_of c.args.map.now c.args.epochs.now in let s = slot_of c.args.lookup.key in
    rw (c.at.ensures, c.learn.ensures, c.named.ensures, c.turn-turn.ensures, named_turn c.args.size s map (wrong_length map) (held_epoch c.args.size (entry_at map s)) c.args.lookup.stage (reply c.args.redirect))
