-- `totals::ownerless`: the entries that pass, counted.
use mathlib.Core.Path.{◌≡◌, sym, ◌∙◌}
use mathlib.Core.Bool.{not}
use Prim.Native.Nat.{ℕ}
use lib.Dec.{ltb}
use borrow.Author.Rules.{rules}
use Rattle.std.specs.List.{count_by}
use Rattle.totals.proofs.Counted.{counted}
use Rattle.totals.proofs.ownerless.Goals as goal

pub returns : goal.returns
returns c =
    let told : c.count.result ≡ count_by (λ (owner : ℕ). not (ltb owner c.args.size)) c.args.slots.now = search rules in
    told ∙ sym (counted _ 0 _)
