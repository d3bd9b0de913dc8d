-- `walking::ukweribaso_lookup`: the replies that are left come to what all of them do.
use Rattle.std.proofs.Common.{◌≡◌, drop}
use Rattle.cache.specs.Cache.{map_of}
use Rattle.walking.specs.Walking.{walked, digested}
use Rattle.walking.proofs.Walks.{here}
use Rattle.walking.proofs.ukweribaso_lookup.Given as goal

abbrev pub invariant-loop-code : goal.invariant-loop-code
invariant-loop-code l =
    digested (walked l.size (here l.initial.lookup (map_of l.initial.map l.initial.epochs)) l.replies)
    ≡ digested (walked l.size (here l.lookup (map_of l.map l.epochs)) (drop l.code-index l.replies))
