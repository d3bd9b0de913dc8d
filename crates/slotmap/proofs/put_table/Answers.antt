-- `slotmap::put_table`: what stands at the list's front are the ranges; their words, and the totals behind them.
use mathlib.Core.Path.{◌≡◌, sym, ap, ◌∙◌}
use mathlib.Core.List.{List, []}
use Prim.Native.Nat.{ℕ, ◌*◌}
use lib.ListN.{length, take, drop}
use lib.Seq.{take_at}
use Rattle.lines.specs.Writers.{extended}
use Rattle.lines.proofs.Writers.{then}
use Rattle.listing.specs.Listing.{Range, listing, flat, laid}
use Rattle.listing.proofs.Laws.{three_a_range}
use Rattle.aloud.specs.Aloud.{spoken, ranges_of}
use Rattle.aloud.proofs.Listings.{reads_back}
use Rattle.slotmap.specs.Table.{in_words}
use Rattle.slotmap.proofs.put_table.Goals as goal

-- so many ranges of a list that they were written to
read_back : (rs : List Range) (was list : List ℕ) (n : ℕ) → n ≡ length rs → list ≡ laid rs was → ranges_of (take (3 * n) list) ≡ rs
read_back rs was list n e is =
    ap ranges_of (ap (λ (l : List ℕ). take (3 * n) l) is ∙ take_at (flat rs) (drop (3 * length rs) was) (3 * n) (three_a_range rs ∙ ap (λ (k : ℕ). 3 * k) (sym e)))
    ∙ reads_back rs

pub returns : goal.returns
unfolding in_words
returns c =
    let a = c.args in
    let e = ap ranges_of c.front.ensures ∙ read_back (listing a.size a.slots.now) a.list.now _ _ c.list_whole-count.ensures.0 c.list_whole-count.ensures.1 in
    then _ _ _ (c.put_listing.ensures ∙ ap (λ (qs : List Range). extended (record a.out.now { end = 0 }) (spoken [] qs)) e) c.put_totals.ensures
