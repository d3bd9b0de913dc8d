-- `walking::ukweribaso_lookup`: the replies that are left come to what all of them do.
use Rattle.std.proofs.Common.{◌∙◌, refl, sym}
use Rattle.walking.proofs.Walks.{at_first, one_less, none_left}
use Rattle.walking.proofs.ukweribaso_lookup.Goals as goal

pub loop-code-init : goal.loop-code-init
loop-code-init c = refl

pub loop-code-preserved : goal.loop-code-preserved
loop-code-preserved c = c.loop-code.invariant ∙ one_less _ _ _ _ c.loop-code-test.true _ c.redirect_of.ensures _ c.take-lookup.ensures

pub returns : goal.returns
returns c =
    rw c.of_lookup.ensures (sym (at_first _ _ _ c.args.key.now c.args.replies.now _ c.key_of.ensures _ c.start-lookup.ensures ∙ c.loop-code.invariant ∙ none_left _ _ _ _ c.loop-code-test.false))
