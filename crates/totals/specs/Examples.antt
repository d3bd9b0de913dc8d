-- Totals as they are printed: computed.
use Rattle.std.specs.Prelude.{◌≡◌, [], ◌∷◌}
use Rattle.tables.specs.Sizes.{unowned}
use Rattle.lines.specs.Texts.{ascii}
use Rattle.totals.specs.Totals.{totals}

-- nodes with several slots, with one and with none; one slot is nobody's
abbrev pub EveryKind : Type 0
EveryKind = totals 3 (2 ∷ 0 ∷ unowned ∷ 2 ∷ []) ≡ ascii "in all: node 0 owns 1 slot; node 2 owns 2 slots; 1 slot is unowned\n"

abbrev pub AllOwned : Type 0
AllOwned = totals 3 (2 ∷ 2 ∷ []) ≡ ascii "in all: node 2 owns 2 slots; no slot is unowned\n"

-- an entry that is no number of the roster is nobody's
abbrev pub Nobodys : Type 0
Nobodys = totals 2 (2 ∷ unowned ∷ []) ≡ ascii "in all: 2 slots are unowned\n"

abbrev pub Examples : Type 0
Examples = EveryKind × AllOwned × Nobodys
