-- `dumps::count_digits`: the characters that are no spaces are counted.
use Rattle.std.specs.Prelude.{count_by}
use Rattle.std.proofs.lemmas.Grind.{common_steps}
use mathlib.Core.Path.{◌≡◌, sym, ◌∙◌}
use mathlib.Core.Bool.{not}
use native.Mathlib.Omega.{arith}
use Rattle.dumps.specs.Dumps.{is_space}
use Rattle.dumps.proofs.Text.{digits_counted}
use Rattle.dumps.proofs.count_digits.Goals as goal

pub returns : goal.returns
returns c =
    let counted : c.count.result ≡ count_by (λ x. not (is_space x)) c.args.input.now = grind (arith, common_steps) in
    counted ∙ sym (digits_counted _)
