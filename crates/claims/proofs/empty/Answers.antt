-- `claims::empty` meets its contract: all of its bytes are 0.
use mathlib.Core.Path.{◌∙◌}
use lib.Dec.{eqb}
use borrow.Author.Rules.{rules}
use borrow.Author.Tests.{tests}
use Rattle.std.proofs.lemmas.Iterator.{YieldsList-from_slice}
use Rattle.std.proofs.lemmas.Iterator.Search.{all_from_yields_List}
use Rattle.claims.proofs.Claims.{all_zero}
use Rattle.claims.proofs.empty.Goals as goal

pub returns : goal.returns
returns c =
    all_from_yields_List (λ b. eqb b 0) _ _ c.all.result c.all.ensures.ran (YieldsList-from_slice c.args.bitmap.now cc) (λ x b q k. search (rules, tests))
    ∙ all_zero _ c.type_inv.bitmap
