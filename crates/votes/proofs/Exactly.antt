-- A vote is granted exactly when the conditions of documents 01 and 02 hold.
use Rattle.std.specs.Prelude.{None, Option, Some}
use mathlib.Core.Path.{◌≡◌, refl, sym, ap, ◌∙◌}
use mathlib.Core.Bool.{Bool, true, false, cond}
use mathlib.Core.List.{List, [], ◌∷◌}
use Prim.Native.Nat.{ℕ, ◌*◌, ◌≤◌, ◌<◌}
use native.Mathlib.Nat.{zero-add}
use native.Mathlib.Omega.{arith}
use lib.Dec.{T, ltb}
use lib.ListN.{get_or}
use borrow.Author.Tests.{ltb-true, ltb-false, leb-false, lt-ltb, le-ltb, lt-leb, not-false}
use Rattle.tables.specs.Checks.{checked}
use Rattle.tables.specs.Lists.{first_at}
use Rattle.tables.specs.Sets.{claimed}
use Rattle.ages.specs.Ages.{age}
use Rattle.claims.specs.Claims.{empty}
use Rattle.answers.specs.declared.Answer.{Answer}
use Rattle.answers.specs.declared.Answer.TheVariants.{Granted}
use Rattle.state.specs.Node.{record_at, master_at, is_master, is_fail, owns, voting_master, role_at, followed}
use Rattle.state.specs.Outcomes.{answered}
use Rattle.state.specs.declared.Node.{Node}
use Rattle.state.specs.declared.Role.{Role}
use Rattle.state.specs.declared.Role.TheVariants.{Master, Replica}
use Rattle.state.specs.declared.Flag.{Flag}
use Rattle.state.specs.declared.Flag.TheVariants.{Clear, Pfail, Fail}
use Rattle.state.specs.declared.Outcome.{Outcome}
use Rattle.votes.specs.Votes.{follows_master, lately, request_checks, newer, granted, by_owners, requested}
use Rattle.votes.specs.Grants.{ListedMaster, ListedReplica, Grantable}
use Rattle.tables.proofs.Checks.{never, part}
use Rattle.tables.proofs.Walks.{HasPlace, none_passes, none_found, occurs_exactly}
use Rattle.answers.proofs.Checks.{refuses}
use Rattle.claims.proofs.Claims.{empty_exactly}
use Rattle.votes.proofs.Steps.{Unrefused, request_cases}

-- ---- from the tests to the conditions

role_master : (r : Role) → is_master r ≡ true → r ≡ Master
role_master Master e = refl
role_master (Replica m) e = never (sym e)

is_master_lem : (n : Node) (k : ℕ) → master_at n k ≡ true → ListedMaster n k
is_master_lem n k e = go (ltb k n.size) refl e
  where
    go : (t : Bool) → ltb k n.size ≡ t → cond t (is_master (record_at n k).role) false ≡ true → ListedMaster n k
    go true q e = record { listed = ltb-true k n.size q; master = role_master (record_at n k).role e }
    go false q e = never (sym e)

is_replica : (n : Node) (k m : ℕ) → role_at n k ≡ Replica m → ListedReplica n k m
is_replica n k m e = go (ltb k n.size) refl e
  where
    go : (t : Bool) → ltb k n.size ≡ t → cond t (record_at n k).role Master ≡ Replica m → ListedReplica n k m
    go true q e = record { listed = ltb-true k n.size q; replica = e }
    go false q e = let z : ◌≡◌ {A = ℕ} 0 1 = cc in absurd (omega arith)

rests : (n : Node) (v : Option ℕ) → lately n v ≡ false → (t : ℕ) → v ≡ Some t → 2 * n.timeout ≤ age n.clock t
rests n v e t q = ltb-false (age n.clock t) (2 * n.timeout) (ap (lately n) (sym q) ∙ e)

owner_old : (n : Node) (bitmap : List ℕ) (config slot owner : ℕ) → newer n bitmap config slot owner ≡ false → claimed bitmap slot ≡ true → owner < n.size → (record_at n owner).config ≤ config
owner_old n bitmap config slot owner e c l = ltb-false config (record_at n owner).config (rw (c, lt-ltb owner n.size l) at e)

-- ---- and back

tests_master : (n : Node) (k : ℕ) → ListedMaster n k → master_at n k ≡ true
tests_master n k l = rw (lt-ltb k n.size l.listed, l.master)

tests_voting : (n : Node) (slots : List ℕ) (k : ℕ) → ListedMaster n k → HasPlace slots k → voting_master n slots k ≡ true
tests_voting n slots k l h = rw (tests_master n k l) ((occurs_exactly slots k).1 h)

tests_role : (n : Node) (k m : ℕ) → ListedReplica n k m → role_at n k ≡ Replica m
tests_role n k m l = rw (lt-ltb k n.size l.listed) l.replica

tests_claim : (bitmap : List ℕ) (slot : ℕ) → claimed bitmap slot ≡ true → empty bitmap ≡ false
tests_claim bitmap slot c = go (empty bitmap) refl
  where
    go : (t : Bool) → empty bitmap ≡ t → t ≡ false
    go true e = never (sym c ∙ (empty_exactly bitmap).none e slot)
    go false e = refl

tests_rest : (n : Node) (v : Option ℕ) → ((t : ℕ) → v ≡ Some t → 2 * n.timeout ≤ age n.clock t) → lately n v ≡ false
tests_rest n None f = refl
tests_rest n (Some t) f = le-ltb (age n.clock t) (2 * n.timeout) (f t refl)

tests_owner : (n : Node) (bitmap : List ℕ) (config slot owner : ℕ) → (claimed bitmap slot ≡ true → owner < n.size → (record_at n owner).config ≤ config) → newer n bitmap config slot owner ≡ false
tests_owner n bitmap config slot owner f = go (claimed bitmap slot) refl (ltb owner n.size) refl
  where
    go : (c : Bool) → claimed bitmap slot ≡ c → (l : Bool) → ltb owner n.size ≡ l → cond c (cond l (ltb config (record_at n owner).config) false) false ≡ false
    go true c true l = le-ltb config (record_at n owner).config (f c (ltb-true owner n.size l))
    go true c false l = refl
    go false c l q = refl

module _ (n : Node) (slots bitmap : List ℕ) (candidate epoch config : ℕ) where
  abbrev outcome : Outcome
  outcome = requested n slots bitmap candidate epoch config

  abbrev Holds : Type 0
  Holds = Grantable n slots bitmap candidate epoch config

  -- the conditions, where no check applied and no owner is newer
  holds : Unrefused n slots bitmap candidate epoch config → first_at (newer n bitmap config) slots ≡ None → Holds
  holds p e = go (role_at n candidate) refl (not-false _ (p 14))
    where
      since : (m : ℕ) (f : Flag) → (record_at n m).flag ≡ f → is_fail f ≡ true → (t : ℕ) × ((record_at n m).flag ≡ Fail t)
      since m Clear q h = never (sym h)
      since m Pfail q h = never (sym h)
      since m (Fail t) q h = (t, q)

      go : (r : Role) → role_at n candidate ≡ r → follows_master n r ≡ true → Holds
      go Master q h = never (sym h)
      go (Replica m) q h =
          let f : is_fail (record_at n (followed (role_at n candidate))).flag ≡ true = not-false _ (p 15) in
          let d : followed (role_at n candidate) ≡ m = ap followed q in
          let s = since m (record_at n m).flag refl (rw d at f) in
          let claim = (empty_exactly bitmap).some (p 18) in
          let voting : voting_master n slots n.me ≡ true = not-false _ (p 11) in
          let tests = master_at n n.me ∷ owns slots n.me ∷ [] in
          let place = (occurs_exactly slots n.me).0 (part 1 tests voting) in
          let v : lately n (record_at n (followed (role_at n candidate))).vote ≡ false = p 16 in
          record {
            own = is_master_lem n n.me (part 0 tests voting);
            own_slot = place.place;
            owned = place.within;
            mine = place.there;
            current = ltb-false epoch n.current (p 12);
            unvoted = leb-false epoch n.voted (p 13);
            m = m;
            candidate_follows = is_replica n candidate m q;
            master = is_master_lem n m h;
            slot = claim.0;
            claims = claim.1;
            since = s.0;
            fail = s.1;
            rested = rests n (record_at n m).vote (rw d at v);
            owners = λ slot l. owner_old n bitmap config slot (get_or slots slot 0) (rw (zero-add slot) at (none_passes (newer n bitmap config) 0 slots e slot l));
          }

  grants : Holds → outcome ≡ answered (granted (followed (role_at n candidate)) epoch n) Granted
  unfolding requested
  grants g =
      let q = tests_role n candidate g.m g.candidate_follows in
      let f : first_at (newer n bitmap config) slots ≡ None = none_found (newer n bitmap config) 0 slots (λ k l. rw (zero-add k) (tests_owner n bitmap config k (get_or slots k 0) (g.owners k l))) in
      ap (λ (r : Role). checked (answered n) (request_checks n slots r bitmap epoch) (by_owners n (followed r) epoch (first_at (newer n bitmap config) slots))) q
      ∙ (rw (tests_voting n slots n.me g.own (record { place = g.own_slot; within = g.owned; there = g.mine }), le-ltb epoch n.current g.current, lt-leb epoch n.voted g.unvoted, tests_master n g.m g.master, tests_claim bitmap g.slot g.claims, g.fail, tests_rest n (record_at n g.m).vote g.rested, f))
      ∙ ap (λ (r : Role). answered (granted (followed r) epoch n) Granted) (sym q)

  -- the answer is 10 exactly when every condition holds
  pub granted_exactly : (outcome.answer ≡ Granted → Holds) × (Holds → outcome.answer ≡ Granted)
  granted_exactly = (
    request_cases n slots bitmap candidate epoch config (λ (o : Outcome). o.answer ≡ Granted → Holds) (λ a t e. none a t e) (λ p f e. holds p f),
    λ g. ap (λ (o : Outcome). o.answer) (grants g),
  )
    where
      none : (a : Answer) → T (refuses a) → a ≡ Granted → Holds
      none a t e = absurd (rw e at t)
