-- What a vote request does to a node, and what holds of it put together.
use mathlib.Core.Path.{◌≡◌, refl}
use mathlib.Core.List.{List, [], ◌∷◌}
use Prim.Native.Nat.{ℕ, zero, suc}
use lib.ListN.{get_or, set}
use Rattle.answers.specs.declared.Answer.TheVariants.{Granted}
use Rattle.state.specs.Node.{blank, record_at, role_at, followed}
use Rattle.state.specs.Changes.{with_vote, with_records, with_voted}
use Rattle.state.specs.declared.Node.{Node}
use Rattle.state.specs.declared.Record.{Record}
use Rattle.state.specs.declared.Outcome.{Outcome}
use Rattle.soundness.proofs.Keeps.{Keeps, all_kept}
use Rattle.votes.specs.Votes.{granted, requested}
use Rattle.votes.specs.Grants.{RequestLaws}
use Rattle.votes.proofs.Steps.{request_cases}
use Rattle.votes.proofs.Exactly.{granted_exactly}
use Rattle.votes.proofs.Kept.{request_sound}

role_kept : (rs : List Record) (m k : ℕ) (r : Record) → r.role ≡ (get_or rs m blank).role → (get_or (set rs m r) k blank).role ≡ (get_or rs k blank).role
role_kept [] m k r e = refl
role_kept (x ∷ rs) zero zero r e = e
role_kept (x ∷ rs) zero (suc k) r e = refl
role_kept (x ∷ rs) (suc m) zero r e = refl
role_kept (x ∷ rs) (suc m) (suc k) r e = role_kept rs m k r e

-- ---- a vote request

module _ (n : Node) (slots bitmap : List ℕ) (candidate epoch config : ℕ) where
  abbrev voting : Outcome
  voting = requested n slots bitmap candidate epoch config

  -- a grant changes lastVoteEpoch and the vote time of the candidate's master, and nothing else
  pub grant_changes : voting.answer ≡ Granted → voting.node ≡ granted (followed (role_at n candidate)) epoch n
  grant_changes =
      request_cases n slots bitmap candidate epoch config (λ (o : Outcome). o.answer ≡ Granted → o.node ≡ granted (followed (role_at n candidate)) epoch n)
      (λ a t e. absurd (rw e at t)) (λ p f e. refl)

  -- any other answer leaves the node as it was
  pub refused_vote : (voting.answer ≡ Granted → ⊥) → voting.node ≡ n
  refused_vote =
      request_cases n slots bitmap candidate epoch config (λ (o : Outcome). (o.answer ≡ Granted → ⊥) → o.node ≡ n)
      (λ a t d. refl) (λ p f d. absurd (d refl))

  -- this node's number, the size and the roles of the others stay
  pub vote_keeps : Keeps n voting.node
  unfolding granted with_voted with_records
  vote_keeps =
      request_cases n slots bitmap candidate epoch config (λ (o : Outcome). Keeps n o.node) (λ a t. all_kept n)
      (λ p f. record { me = refl; size = refl; others = λ k d. let m = followed (role_at n candidate) in rw (role_kept n.records m k (with_vote _ (record_at n m)) refl) })

pub request_laws : (n : Node) (slots bitmap : List ℕ) (candidate epoch config : ℕ) → RequestLaws n slots bitmap candidate epoch config
request_laws n slots bitmap candidate epoch config = record {
  if = (granted_exactly n slots bitmap candidate epoch config).1;
  only_if = (granted_exactly n slots bitmap candidate epoch config).0;
  grant = grant_changes n slots bitmap candidate epoch config;
  refused = refused_vote n slots bitmap candidate epoch config;
  stays_sound = request_sound n slots bitmap candidate epoch config;
}
