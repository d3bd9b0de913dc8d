-- Vote requests, openings and acks on two nodes that are alike. Whoever is followed is looked up in the roster, where a sound
-- state has them.
use Rattle.std.specs.Prelude.{None, Option, Some}
use mathlib.Core.Path.{◌≡◌, refl, ap, subst, subst₂, fun_ext, ◌∙◌}
use mathlib.Core.Bool.{Bool, true, false, cond}
use mathlib.Core.List.{List}
use Prim.Native.Nat.{ℕ, ◌+◌, ◌<◌}
use lib.Dec.{ltb}
use Rattle.tables.specs.Checks.{checked}
use Rattle.tables.specs.Lists.{first_at}
use Rattle.tables.specs.Sets.{claimed}
use Rattle.nodesets.specs.NodeSets.{none, added, majority}
use Rattle.nodesets.specs.declared.NodeSet.{NodeSet}
use Rattle.answers.specs.declared.Answer.TheVariants.{Done, Granted, Outdated, Won, NoElection}
use Rattle.state.specs.Node.{record_at, role_at, followed}
use Rattle.state.specs.Changes.{with_vote, with_voted, with_current, with_election, on_record}
use Rattle.state.specs.Outcomes.{answered, Slotted}
use Rattle.state.specs.Same.{held}
use Rattle.state.specs.declared.Node.{Node}
use Rattle.state.specs.declared.Role.{Role}
use Rattle.state.specs.declared.Role.TheVariants.{Master, Replica}
use Rattle.state.specs.declared.Election.{Election}
use Rattle.state.specs.declared.Outcome.{Outcome}
use Rattle.votes.specs.Votes.{follows_master, lately, request_checks, newer, granted, by_owners, requested}
use Rattle.openings.specs.Openings.{young, open_checks, opening, standing}
use Rattle.wins.specs.Wins.{passes, Passing, handed_over}
use Rattle.acks.specs.Acks.{ack_checks, passing, winner, promoted, won, counted, heard_in, acked}
use Rattle.kinds.specs.Kinds.{keeping, slotted_step}
use Rattle.sameness.proofs.Seen.{seen, Alike, bare, Reads, record_read, listed_read, master_read, role_read, voting_read, voters_read, on, Changes, both_change, record_change, reads_alike, reads_where, changes_alike}
use Rattle.state.specs.Node.{an_election}
use Rattle.sameness.proofs.Told.{Told, answered_told, checked_told}

-- ---- a vote request

follows_read : (role : Role) → Reads (λ n. follows_master n role)
follows_read Master n = refl
follows_read (Replica m) n = master_read m n

lately_read : (t : Option ℕ) → Reads (λ n. lately n t)
lately_read None n = refl
lately_read (Some t) n = refl

-- 11 to 16 and 18, where whoever is followed is listed
request_read : (slots : List ℕ) (role : Role) (bitmap : List ℕ) (epoch : ℕ) (n : Node) → followed role < n.size → request_checks (bare (held n)) slots role bitmap epoch ≡ request_checks n slots role bitmap epoch
request_read slots role bitmap epoch n h = rw (voting_read slots n.me n, follows_read role n, record_read (followed role) n h, lately_read (record_at n (followed role)).vote n)

-- 17
newer_read : (bitmap : List ℕ) (config slot owner : ℕ) → Reads (λ n. newer n bitmap config slot owner)
newer_read bitmap config slot owner n = ap (λ (t : Bool). cond (claimed bitmap slot) t false) (listed_read (λ r. ltb config r.config) false owner n)

newest_read : (slots bitmap : List ℕ) (config : ℕ) → Reads (λ n. first_at (newer n bitmap config) slots)
newest_read slots bitmap config n = ap (λ (p : ℕ → ℕ → Bool). first_at p slots) (fun_ext (λ slot. fun_ext (λ owner. newer_read bitmap config slot owner n)))

-- 10
grant_change : (m epoch : ℕ) → Changes (granted m epoch)
unfolding granted with_voted
grant_change m epoch = both_change (λ n. on_record m (with_vote (Some n.clock)) n) (with_voted epoch) (record_change m (λ n. with_vote (Some n.clock)) (λ n. refl)) (λ n. refl)

module _ (a b : Node) (e : Alike a b) (slots reports : List ℕ) where
  owners_told : (m epoch : ℕ) (found : Option ℕ) → Told (keeping slots reports (by_owners a m epoch found)) (keeping slots reports (by_owners b m epoch found))
  owners_told m epoch (Some slot) = answered_told a b e slots reports (Outdated slot)
  owners_told m epoch None = answered_told _ _ (changes_alike a b e (granted m epoch) (grant_change m epoch)) slots reports Granted

  pub requested_told : ((k : ℕ) → followed (role_at a k) < a.size) → (bitmap : List ℕ) (candidate epoch config : ℕ)
      → Told (keeping slots reports (requested a slots bitmap candidate epoch config)) (keeping slots reports (requested b slots bitmap candidate epoch config))
  unfolding requested
  requested_told listed bitmap candidate epoch config =
      subst₂ (λ (r : Role) (x : Option ℕ). Told (keeping slots reports (asked a (role a) (newest a))) (keeping slots reports (asked b r x)))
      (reads_alike a b e role (role_read candidate)) (reads_alike a b e newest (newest_read slots bitmap config))
      (checked_told (keeping slots reports) (answered a) (answered b) _ _
      (reads_where a b e (λ s. followed (role a) < s.size) (listed candidate) (λ n. request_checks n slots (role a) bitmap epoch) (request_read slots (role a) bitmap epoch)) _ _
      (answered_told a b e slots reports) (λ p. owners_told (followed (role a)) epoch (newest a)))
    where
      role : Node → Role
      role n = role_at n candidate

      newest : Node → Option ℕ
      newest n = first_at (newer n bitmap config) slots

      asked : Node → Role → Option ℕ → Outcome
      asked n r x = checked (answered n) (request_checks n slots r bitmap epoch) (by_owners n (followed r) epoch x)

-- ---- an opening

young_read : (x : Option Election) → Reads (λ n. young n x)
young_read None n = refl
young_read (Some e) n = refl

-- 24, 25, 26, 28 and 9, where whoever is followed is listed
open_read : (slots : List ℕ) (role : Role) (n : Node) → followed role < n.size → open_checks (bare (held n)) slots role ≡ open_checks n slots role
open_read slots role n h = rw (record_read (followed role) n h, young_read n.election n)

opening_change : (slots : List ℕ) → Changes (λ n. opening n slots)
unfolding opening with_election with_current
opening_change slots n = λ i. on (λ m. with_election (an_election (m.current + 1) m.clock (voters_read slots n i) none) (with_current (m.current + 1) m)) (seen n)

module _ (a b : Node) (e : Alike a b) (slots reports : List ℕ) where
  pub standing_told : ((k : ℕ) → followed (role_at a k) < a.size) → Told (keeping slots reports (standing a slots)) (keeping slots reports (standing b slots))
  standing_told listed =
      subst (λ (r : Role). Told (keeping slots reports (stood a (role a))) (keeping slots reports (stood b r))) (reads_alike a b e role (λ n. role_read n.me n))
      (checked_told (keeping slots reports) (answered a) (answered b) _ _
      (reads_where a b e (λ s. followed (role a) < s.size) (listed a.me) (λ n. open_checks n slots (role a)) (open_read slots (role a))) _ _
      (answered_told a b e slots reports) (λ p. answered_told _ _ (changes_alike a b e (λ n. opening n slots) (opening_change slots)) slots reports Done))
    where
      role : Node → Role
      role n = role_at n n.me

      stood : Node → Role → Outcome
      stood n r = checked (answered n) (open_checks n slots r) (answered (opening n slots) Done)

-- ---- an ack

win_change : (epoch : ℕ) → Changes (promoted epoch)
unfolding promoted with_election
win_change epoch n = both_change (on_record n.me (winner epoch)) (with_election None) (record_change n.me (λ m. winner epoch) (λ m. refl)) (λ m. refl) n

-- what passes by a role, where whoever is followed is listed
abbrev passing_by : List ℕ → ℕ → Role → Node → Passing
passing_by slots epoch role n = handed_over (passes role (record_at n (followed role)).config epoch) n.me slots

passing_read : (slots : List ℕ) (epoch : ℕ) (role : Role) (n : Node) → followed role < n.size → passing_by slots epoch role (bare (held n)) ≡ passing_by slots epoch role n
passing_read slots epoch role n h = rw (record_read (followed role) n h)

module _ (a b : Node) (e : Alike a b) (listed : (k : ℕ) → followed (role_at a k) < a.size) (slots reports : List ℕ) where
  passing_alike : (epoch : ℕ) → passing a slots epoch ≡ passing b slots epoch
  passing_alike epoch =
      reads_where a b e (λ s. followed (role a) < s.size) (listed a.me) (passing_by slots epoch (role a)) (passing_read slots epoch (role a))
      ∙ ap (λ (r : Role). passing_by slots epoch r b) (reads_alike a b e role (λ n. role_read n.me n))
    where
      role : Node → Role
      role n = role_at n n.me

  counted_told : (epoch opened : ℕ) (voters heard : NodeSet) → Told (slotted_step reports (counted a slots epoch opened voters heard)) (slotted_step reports (counted b slots epoch opened voters heard))
  unfolding with_election
  counted_told epoch opened voters heard = by (majority voters heard)
    where
      more : Node → Slotted
      more n = record { outcome = answered (with_election (an_election epoch opened voters heard) n) Done; slots = slots }

      by : (t : Bool) → Told (slotted_step reports (cond t (won a slots epoch) (more a))) (slotted_step reports (cond t (won b slots epoch) (more b)))
      by true = record {
        answer = ap (λ (p : Passing). Won p.count) (passing_alike epoch);
        node = changes_alike a b e (promoted epoch) (win_change epoch);
        slots = ap (λ (p : Passing). p.slots) (passing_alike epoch);
        reports = refl;
      }
      by false = answered_told _ _ (changes_alike a b e (with_election (an_election epoch opened voters heard)) (λ n. refl)) slots reports Done

  heard_told : (voter candidate epoch : ℕ) (x : Option Election) → Told (slotted_step reports (heard_in a slots voter candidate epoch x)) (slotted_step reports (heard_in b slots voter candidate epoch x))
  heard_told voter candidate epoch None = answered_told a b e slots reports NoElection
  heard_told voter candidate epoch (Some x) =
      checked_told (slotted_step reports) _ _ _ _ (reads_alike a b e (λ n. ack_checks n voter candidate epoch x.epoch x.opened x.voters x.heard) (λ n. refl)) _ _
      (answered_told a b e slots reports) (λ p. counted_told x.epoch x.opened x.voters (added x.heard voter))

  pub acked_told : (voter candidate epoch : ℕ) → Told (slotted_step reports (acked a slots voter candidate epoch)) (slotted_step reports (acked b slots voter candidate epoch))
  unfolding acked
  acked_told voter candidate epoch =
      subst (λ (x : Option Election). Told (slotted_step reports (acked a slots voter candidate epoch)) (slotted_step reports (heard_in b slots voter candidate epoch x)))
      (λ i. (e i).held.election) (heard_told voter candidate epoch a.election)
