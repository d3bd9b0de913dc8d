-- `dumps::first_odd`: std's search of a list is ours.
use mathlib.Core.Path.{◌∙◌}
use mathlib.Core.Bool.{not}
use borrow.Author.Rules.{rules}
use borrow.Author.Tests.{tests}
use Rattle.std.proofs.lemmas.Iterator.{YieldsList-from_slice}
use Rattle.std.proofs.lemmas.Iterator.Search.{position_from_yields_List}
use Rattle.tables.proofs.Walks.{first_position}
use Rattle.dumps.specs.Dumps.{is_text}
use Rattle.dumps.proofs.first_odd.Goals as goal

pub returns : goal.returns
returns c =
    position_from_yields_List (λ x. not (is_text x)) _ _ c.position.result c.position.ensures.ran (YieldsList-from_slice c.args.input.now cc) (λ x b q k. search (rules, tests))
    ∙ first_position _ _
