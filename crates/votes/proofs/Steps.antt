-- A vote request by its cases, for any statement about its outcome, and the grant as the code makes it.
use Rattle.std.specs.Prelude.{Err, None, Option, Some}
use mathlib.Core.Path.{◌≡◌, refl, sym, ap, fun_ext, ◌∙◌}
use mathlib.Core.Bool.{Bool, true, false}
use mathlib.Core.List.{List, [], ◌∷◌}
use Prim.Native.Nat.{ℕ}
use lib.Dec.{T, ltb}
use lib.ListN.{length, get_or, set}
use borrow.Author.Tests.{ltb-true}
use Rattle.tables.specs.Checks.{checked, all_of}
use Rattle.tables.specs.Lists.{first_at}
use Rattle.tables.specs.Sizes.{node_room}
use Rattle.tables.specs.Sets.{claimed}
use Rattle.tables.proofs.Checks.{never}
use Rattle.answers.specs.declared.Answer.{Answer}
use Rattle.answers.specs.declared.Answer.TheVariants.{Granted, Outdated}
use Rattle.answers.proofs.Checks.{on_check, by_check, test_for, refuses, past}
use Rattle.state.specs.Node.{blank, record_at, role_at, followed}
use Rattle.state.specs.Changes.{with_vote, with_voted, with_records}
use Rattle.state.specs.Outcomes.{answered}
use Rattle.state.specs.declared.Node.{Node}
use Rattle.state.specs.declared.Record.{Record}
use Rattle.state.specs.declared.Role.{Role}
use Rattle.state.specs.declared.Outcome.{Outcome}
use Rattle.records.specs.Known.{known_configs, in_room, place_of}
use Rattle.records.proofs.Known.{known_config, changed_there}
use Rattle.claims.specs.Claims.{newer_owner}
use Rattle.answers.specs.Refusing.{Check, cleared}
use Rattle.votes.specs.Votes.{request_checks, newer, granted, by_owners, requested}

-- ---- a vote request

refused_is : (b : Bool) → b ≡ true → T b
refused_is true e = tt
refused_is false e = never (sym e)

module _ (n : Node) (slots bitmap : List ℕ) (candidate epoch config : ℕ) where
  abbrev pub rows : List (Bool × Answer)
  rows = request_checks n slots (role_at n candidate) bitmap epoch

  -- no check applied, each by the number of its answer
  abbrev pub Unrefused : Type 0
  Unrefused = (a : ℕ) → test_for a rows ≡ false

  pub request_cases : (P : Outcome → Type 0)
      → ((a : Answer) → T (refuses a) → P (answered n a))
      → (Unrefused → first_at (newer n bitmap config) slots ≡ None → P (answered (granted (followed (role_at n candidate)) epoch n) Granted))
      → P (requested n slots bitmap candidate epoch config)
  unfolding requested
  request_cases P refused grants =
      past P refuses (answered n) rows _ refl (λ a e. refused a (refused_is (refuses a) e)) λ p.
      last p (first_at (newer n bitmap config) slots) refl
    where
      last : Unrefused → (f : Option ℕ) → first_at (newer n bitmap config) slots ≡ f → P (by_owners n (followed (role_at n candidate)) epoch f)
      last p None e = grants p e
      last p (Some slot) e = refused (Outdated slot) tt

  -- a vote request by what its checks came to, for a candidate of that role
  pub by_checks : (role : Role) (check : Check) → role ≡ role_at n candidate → check ≡ checked Err (request_checks n slots role bitmap epoch) cleared
      → requested n slots bitmap candidate epoch config ≡ on_check (answered n) (by_owners n (followed role) epoch (first_at (newer n bitmap config) slots)) check
  unfolding requested
  by_checks role check e q = rw (← e, q) (by_check (answered n) (request_checks n slots role bitmap epoch) _)

-- what the search found by the configEpochs that were collected, it found by the records
pub by_records : (n : Node) (configs slots bitmap : List ℕ) (config : ℕ) (found : Option ℕ) → configs ≡ known_configs n.size n.records → found ≡ first_at (newer_owner n.size (λ o. get_or configs o 0) bitmap config) slots → found ≡ first_at (newer n bitmap config) slots
by_records n configs slots bitmap config found e q = q ∙ ap (λ (p : ℕ → ℕ → Bool). first_at p slots) (fun_ext (λ slot. fun_ext (λ owner. same owner (claimed bitmap slot) (ltb owner n.size) refl)))
  where
    same : (owner : ℕ) (c l : Bool) → ltb owner n.size ≡ l → all_of (c ∷ l ∷ ltb config (get_or configs owner 0) ∷ []) ≡ all_of (c ∷ l ∷ ltb config (record_at n owner).config ∷ [])
    same owner c true h = rw (e, known_config n.size n.records owner (ltb-true owner n.size h))
    same owner c false h = refl

-- the owners decide where no check refused, by what the search found
pub passed : (n : Node) (m epoch : ℕ) (f found g : Option ℕ) (check : Check) → check ≡ cleared → found ≡ f → found ≡ g → on_check (answered n) (by_owners n m epoch f) check ≡ by_owners n m epoch g
passed n m epoch f found g check e q h = rw (e, ← q, h)

-- ---- the grant, made at the place of the candidate's master

pub granted_there : (n : Node) → length n.records ≡ node_room → (m epoch at : ℕ) (there voted kept : Record) → at ≡ place_of m → there ≡ get_or n.records at blank → voted ≡ with_vote (Some n.clock) there → kept ≡ in_room m voted there → with_voted epoch (with_records (set n.records at kept) n) ≡ granted m epoch n
unfolding granted
granted_there n room m epoch at there voted kept ea et ev ek =
    rw (ek, ev, et, ea) (ap (λ (rs : List Record). with_voted epoch (with_records rs n)) (changed_there n.records room m (with_vote (Some n.clock))))
