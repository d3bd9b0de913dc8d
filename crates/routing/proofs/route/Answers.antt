-- `routing::route` meets its contract: 1 and 7, and then by the key's slot.
use Rattle.std.proofs.Common.{◌∙◌, sym, true}
use Rattle.routing.proofs.Replies.{told_wrong_length, told_unsound, told_redirected, slot_within}
use Rattle.routing.proofs.route.Goals as goal

pub redirected-requires : goal.redirected-requires
redirected-requires c =
    let checked = rw c.from.ensures at c.checks.ensures in
    rw c.key_slot.ensures (slot_within c.args.node c.args.slots.now c.args.key.now true true (sym c.in-Ok.is ∙ checked))

pub returns-in-WrongLength : goal.returns-in-WrongLength
returns-in-WrongLength c =
    let checked = rw c.from.ensures at c.checks.ensures in
    told_wrong_length _ _ _ _ _ _ c.in-WrongLength.is (sym c.in-Err.is ∙ checked)

pub returns-in_default : goal.returns-in_default
returns-in_default c =
    let checked = rw c.from.ensures at c.checks.ensures in
    told_unsound _ _ _ _ _ _ c.in_default.not-WrongLength (sym c.in-Err.is ∙ checked)

pub returns-in-Ok : goal.returns-in-Ok
returns-in-Ok c =
    let checked = rw c.from.ensures at c.checks.ensures in
    rw (c.redirected.ensures, c.key_slot.ensures) (told_redirected _ _ _ _ _ (sym c.in-Ok.is ∙ checked))
