-- Listings as they are printed: computed.
use Rattle.std.specs.Prelude.{◌≡◌, [], ◌∷◌, ◌++◌}
use Rattle.lines.specs.Texts.{ascii}
use Rattle.listing.specs.Listing.{range}
use Rattle.aloud.specs.Aloud.{spoken}

-- ranges of several slots and of one, and unowned slots before, between and behind them, with a margin of two blanks
abbrev pub EveryKind : Type 0
EveryKind =
    spoken (ascii "  ") (range 1 5460 0 ∷ range 5461 5461 12 ∷ range 10923 16382 3 ∷ [])
    ≡ ascii "  slot 0, that is 1 slot, is unowned\n"
    ++ ascii "  slots 1 to 5,460, that is 5,460 slots, belong to node 0\n"
    ++ ascii "  slot 5,461, that is 1 slot, belongs to node 12\n"
    ++ ascii "  slots 5,462 to 10,922, that is 5,461 slots, are unowned\n"
    ++ ascii "  slots 10,923 to 16,382, that is 5,460 slots, belong to node 3\n"
    ++ ascii "  slot 16,383, that is 1 slot, is unowned\n"

-- no ranges, and one of all slots
abbrev pub Nobodys : Type 0
Nobodys = spoken [] [] ≡ ascii "slots 0 to 16,383, that is 16,384 slots, are unowned\n"

abbrev pub OneOwner : Type 0
OneOwner = spoken [] (range 0 16383 5 ∷ []) ≡ ascii "slots 0 to 16,383, that is 16,384 slots, belong to node 5\n"

abbrev pub Examples : Type 0
Examples = EveryKind × Nobodys × OneOwner
