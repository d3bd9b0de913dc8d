-- `walks::is_named` looks through the words behind `held`.
use Rattle.std.proofs.Common.{◌≡◌, ◌∙◌}
use Rattle.std.proofs.lemmas.List.{take_rest}
use Rattle.walks.specs.Walks.{words_from}
use Rattle.walks.proofs.Walks.{list_any-among}
use Rattle.walks.proofs.is_named.Goals as goal

pub returns : goal.returns
returns c =
    let behind : c.front.result.now ≡ words_from 4 c.args.call.words c.args.call.numbers = c.front.ensures ∙ rw (take_rest c.args.call.numbers 4, c.saturating_sub.ensures) in
    c.contains.ensures.value ∙ (list_any-among c.from.result c.front.result.now ∙ rw (c.from.ensures, behind))
