-- What a claim reads of the nodes: their known configEpochs by their numbers, and the records that these stand in.
use Rattle.std.specs.Prelude.{ℕ, cond, List, ltb}
use Rattle.tables.specs.Lists.{map_at}
use Rattle.tables.specs.Sizes.{node_room}
use Rattle.state.specs.declared.Record.{Record}

-- of so many listed nodes each one's configEpoch; past them, 0
unfoldable pub known_configs : ℕ → List Record → List ℕ
known_configs size records = map_at (λ (k : ℕ) (r : Record). cond (ltb k size) r.config 0) records

-- for a number that has a record the first, for another the second
abbrev pub in_room : {A : Type 0} → ℕ → A → A → A
in_room k there past = cond (ltb k node_room) there past

-- where the record of a number lies; for a number that has none, the first place
abbrev pub place_of : ℕ → ℕ
place_of k = in_room k k 0
