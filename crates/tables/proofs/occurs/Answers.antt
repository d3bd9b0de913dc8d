-- `tables::occurs`: the number stands in a stretch, or in the rest behind them.
use mathlib.Core.Path.{◌≡◌, ap, ◌∙◌}
use mathlib.Core.List.{List}
use Prim.Native.Nat.{ℕ, ◌/◌}
use lib.ListN.{length}
use borrow.Author.Rules.{rules}
use borrow.Author.Tests.{tests}
use Rattle.std.specs.List.{list_any}
use Rattle.std.specs.Simd.{first_chunks}
use Rattle.std.proofs.lemmas.Iterator.{YieldsList-from_slice}
use Rattle.std.proofs.lemmas.Iterator.Search.{any_from_yields_List}
use Rattle.tables.specs.Lists.{occurs}
use Rattle.tables.proofs.Walks.{occurs_chunks}
use Rattle.tables.proofs.occurs.Goals as goal

pub returns-then-any : goal.returns-then-any
returns-then-any c =
    let e = c.args.entries.now in
    let v = c.args.number in
    let stands : c.any.result ≡ list_any (λ stretch. occurs stretch v) (first_chunks 32 (length e / 32) e) =
    any_from_yields_List (λ stretch. occurs stretch v) _ _ c.any.result c.any.ensures.ran (YieldsList-from_slice (first_chunks 32 (length e / 32) e) cc) (λ x b q k. search (rules, tests)) in
    c.if-any.true ∙ rw (← stands, c.if-any.true) at (occurs_chunks v 32 (length e / 32) e)

pub returns-else-any : goal.returns-else-any
returns-else-any c =
    let e = c.args.entries.now in
    let v = c.args.number in
    let stands : c.any.result ≡ list_any (λ stretch. occurs stretch v) (first_chunks 32 (length e / 32) e) =
    any_from_yields_List (λ stretch. occurs stretch v) _ _ c.any.result c.any.ensures.ran (YieldsList-from_slice (first_chunks 32 (length e / 32) e) cc) (λ x b q k. search (rules, tests)) in
    c.stands_in.ensures ∙ ap (λ (xs : List ℕ). occurs xs v) c.as_chunks.ensures.back ∙ rw (← stands, c.if-any.false) at (occurs_chunks v 32 (length e / 32) e)
