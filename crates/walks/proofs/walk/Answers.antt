-- `walks::walk`: what is left to walk, after so many questions, is what there was to walk, and the buffer keeps its length.
use Rattle.std.proofs.Common.{◌≡◌, suc, sym, ◌∙◌, ◌+◌, ◌-◌, arith}
use Rattle.walks.proofs.Walks.{ended, one_question, no_question}
use Rattle.walks.proofs.walk.Goals as goal

pub returns-in_default-clause-taken : goal.returns-in_default-clause-taken
returns-in_default-clause-taken c = sym (ended _ _ _ _ _ _ _ _ c.in_default.is) ∙ c.loop-asked.invariant.taken

pub loop-asked-preserved : goal.loop-asked-preserved
loop-asked-preserved c =
    let n = c.loop-asked._asked in
    let one : 5 - n ≡ suc (5 - (n + 1)) = omega arith in
    let reply = c.ask-lookup.ensures.taken ∙ rw (c.table-table.ensures, c.is_named-present.ensures, c.from.ensures) in
    record {
      taken = sym (one_question _ _ _ _ (5 - n) (5 - (n + 1)) _ _ _ _ one c.in-Asking.is reply) ∙ c.loop-asked.invariant.taken;
      same_room = c.ask-lookup.ensures.same_room ∙ c.loop-asked.invariant.same_room;
    }

pub returns-clause-taken : goal.returns-clause-taken
returns-clause-taken c = sym (no_question _ _ _ _ _ _ _ (omega arith)) ∙ c.loop-asked.invariant.taken
