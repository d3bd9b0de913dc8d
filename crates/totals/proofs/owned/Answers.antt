-- `totals::owned`: the entries that pass, counted.
use mathlib.Core.Path.{◌≡◌, sym, ◌∙◌}
use Prim.Native.Nat.{ℕ}
use lib.Dec.{eqb}
use borrow.Author.Rules.{rules}
use Rattle.std.specs.List.{count_by}
use Rattle.totals.proofs.Counted.{counted}
use Rattle.totals.proofs.owned.Goals as goal

pub returns : goal.returns
returns c =
    let told : c.count.result ≡ count_by (λ (owner : ℕ). eqb owner c.args.k) c.args.slots.now = search rules in
    told ∙ sym (counted _ 0 _)
