-- `slots::hashed_part`: each way out is one of the laws of the definition.
use Rattle.std.proofs.Common.{arith, rules, sym}
use lib.Seq.{length-take-le}
use Rattle.slots.proofs.Tags.{found_within, no_opening, no_closing, nothing_between, tagged}
use Rattle.slots.proofs.hashed_part.Goals as goal

pub returns-in_default : goal.returns-in_default
returns-in_default c = no_opening _ c.in_default.ensures

pub overflow_add-rest : goal.overflow_add-rest
overflow_add-rest c = omega (arith, found_within _ c.args.key.now _ c.in-Some.ensures)

pub slice_bounds-rest-count : goal.slice_bounds-rest-count
slice_bounds-rest-count c = omega (arith, found_within _ c.args.key.now _ c.in-Some.ensures)

pub slice_bounds-rest-start : goal.slice_bounds-rest-start
slice_bounds-rest-start c = search (rules, found_within _ c.args.key.now _ c.in-Some.ensures)

pub returns-in_default-first_byte : goal.returns-in_default-first_byte
returns-in_default-first_byte c = no_closing _ _ c.in-Some.ensures c.in_default-first_byte.ensures

pub returns-then-close-eq0 : goal.returns-then-close-eq0
returns-then-close-eq0 c = nothing_between _ _ c.in-Some.ensures _ c.in-Some-first_byte.ensures c.if-close-eq0.true

pub slice_bounds-result-end : goal.slice_bounds-result-end
slice_bounds-result-end c = sym (length-take-le _ _ (omega (arith, found_within _ _ _ c.in-Some-first_byte.ensures)))

pub returns : goal.returns
returns c = tagged _ _ c.in-Some.ensures _ c.in-Some-first_byte.ensures c.if-close-eq0.false
