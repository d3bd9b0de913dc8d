-- `votes::request` meets its contract: the checks, then the claims, then the grant.
use mathlib.Core.Path.{refl, sym, ap, ◌∙◌}
use Prim.Native.Nat.{ℕ}
use native.Mathlib.Omega.{arith}
use Rattle.answers.specs.declared.Answer.TheVariants.{Granted}
use Rattle.state.specs.Changes.{with_records, with_voted}
use Rattle.state.specs.Outcomes.{answered}
use Rattle.state.specs.declared.Node.{Node}
use Rattle.votes.specs.Votes.{granted}
use Rattle.votes.proofs.Steps.{by_checks, by_records, passed, granted_there}
use Rattle.votes.proofs.request.Goals as goal

pub returns-in-Err : goal.returns-in-Err
returns-in-Err c =
    let a = c.args in
    sym (by_checks a.node _ a.bitmap.now a.candidate a.epoch a.config _ _ c.role_of-role.ensures c.request_refusal.ensures ∙ rw c.in-Err.is)

pub returns-in-Some : goal.returns-in-Some
returns-in-Some c =
    let a = c.args in
    sym (by_checks a.node _ a.bitmap.now a.candidate a.epoch a.config _ _ c.role_of-role.ensures c.request_refusal.ensures
    ∙ passed _ _ _ _ _ _ _ c.in-Ok.is (by_records a.node _ _ a.bitmap.now a.config _ c.configs-configs.ensures c.first_newer.ensures) c.in-Some.is)

pub returns-in-None : goal.returns-in-None
unfolding with_records with_voted
returns-in-None c =
    let a = c.args in
    sym (by_checks a.node _ a.bitmap.now a.candidate a.epoch a.config _ _ c.role_of-role.ensures c.request_refusal.ensures
    ∙ passed _ _ _ _ _ _ _ c.in-Ok.is (by_records a.node _ _ a.bitmap.now a.config _ c.configs-configs.ensures c.first_newer.ensures) c.in-None.is
    ∙ ap (λ (m : ℕ). answered (granted m a.epoch a.node) Granted) (sym c.followed-m.ensures)
    ∙ ap (λ (n : Node). answered n Granted) (sym (granted_there a.node (omega arith) c.followed-m.result a.epoch _ _ _ _ c.place_of-at.ensures refl c.with_vote-voted.ensures c.kept_of.ensures)))
