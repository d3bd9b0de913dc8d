-- The forms of a line by number, as callers that hold numbers know them.
use Rattle.std.specs.Prelude.{ℕ, cond, List, [], ◌∷◌, get_or, eqb}
use Rattle.calls.specs.declared.Form.{Form}
use Rattle.calls.specs.declared.Form.TheVariants.{Roster, Replica, Timeout, Slots, Report, Frame, Piece, Open, Migrate, Import, Unmark, Key, Hexkey, Ranges, Lookup, Unknown, Silent, TooLong, Summary}

-- those that have a name, from 0 on
abbrev pub named : List Form
named =
    Roster ∷ Replica ∷ Timeout ∷ Slots ∷ Report ∷ Frame ∷ Piece ∷ Open ∷ Migrate ∷ Import ∷ Unmark ∷ Key ∷ Hexkey ∷ Ranges ∷ Lookup ∷ []

-- every number is one: three more stand at the end, and the others are no form's name
abbrev pub numbered : ℕ → Form
numbered number =
    cond (eqb number 253) Summary (cond (eqb number 254) Silent (cond (eqb number 255) TooLong (get_or named number Unknown)))
