-- What a node's reply does to a lookup (02, [4] and [5]): how it ends, whom it asks next, and what is learned of its slot's owner.
use Rattle.std.specs.Prelude.{ℕ, ◌+◌, Bool, true, false, not, List, [], ◌∷◌, eqb, leb, ltb, Option, None, Some}
use Rattle.tables.specs.Checks.{checked, any_of}
use Rattle.routing.specs.Replies.{Reply, refused, down, serve, ask, moved}
use Rattle.lookups.specs.declared.Question.{Question}
use Rattle.lookups.specs.declared.End.{End}
use Rattle.lookups.specs.declared.End.TheVariants.{Served, Bad, Down, Declined, TooMany, Stale}
use Rattle.lookups.specs.declared.Stage.{Stage}
use Rattle.lookups.specs.declared.Stage.TheVariants.{Asking, Ended}
use Rattle.lookups.specs.declared.Lookup.{Lookup}
use Rattle.cache.specs.declared.Entry.{Entry}
use Rattle.lookups.specs.declared.Turn.{Turn}

-- the redirections that are followed; one more ends the lookup
abbrev pub most_hops : ℕ
most_hops = 4

-- the lookup at another stage
abbrev pub at : Lookup → Stage → Lookup
at l stage = record { household = l.household; key = l.key; stage = stage }

-- nothing is learned
abbrev pub turns : Stage → Turn
turns stage = record { stage = stage; learned = None }

-- the lookup ends
abbrev pub ends : End → Turn
ends end = turns (Ended end)

-- a redirection that names a slot other than the key's, or no roster node
abbrev pub is_bad : (size s named node : ℕ) → Bool
is_bad size s named node = any_of (not (eqb named s) ∷ leb size node ∷ [])

-- a MOVED whose epoch is lower than the one held, that of the cached entry
abbrev pub is_stale : (held epoch : ℕ) → Bool
is_stale held epoch = ltb epoch held

-- bad, then a fifth, then stale
abbrev pub redirect_checks : (size s hops named node : ℕ) → Bool → List (Bool × End)
redirect_checks size s hops named node stale = (is_bad size s named node, Bad) ∷ (leb most_hops hops, TooMany) ∷ (stale, Stale) ∷ []

-- a redirection: else the node named is asked next
abbrev pub sent_on : (size s hops named node : ℕ) → (stale asking : Bool) → Option Entry → Turn
sent_on size s hops named node stale asking learned =
    checked ends (redirect_checks size s hops named node stale)
    (record { stage = Asking (record { node = node; asking = asking; hops = hops + 1 }); learned = learned })

-- the reply to a question of a lookup on slot s, in a roster of that size, with the epoch held of that slot; an ASK has no epoch
unfoldable pub heard : (size s held : ℕ) → Question → Reply → Turn
heard size s held q serve = ends (Served q.node)
heard size s held q (moved named owner epoch) = sent_on size s q.hops named owner (is_stale held epoch) false (Some (record { owner = owner; epoch = epoch }))
heard size s held q (ask named peer) = sent_on size s q.hops named peer false true None
heard size s held q down = ends Down
heard size s held q (refused n) = ends (Declined n)
