-- Document 01's cases that are marked with a star and document 02's of [3] and [10], all rows as one statement.
use Rattle.std.specs.Prelude.{None, Option, Some}
use mathlib.Core.Path.{◌≡◌, refl, ap, ◌∙◌}
use mathlib.Core.Bool.{Bool, true, false}
use mathlib.Core.List.{List, [], ◌∷◌, ◌++◌, map}
use Prim.Native.Nat.{ℕ, zero, suc, ◌^◌, ◌<◌}
use native.Mathlib.Omega.{arith}
use lib.Dec.{eqb, ltb}
use lib.ListN.{length, get_or, replicate}
use borrow.Author.Tests.{ltb-true}
use Rattle.tables.specs.Sizes.{unowned, slot_count, report_count}
use Rattle.tables.specs.Below.{every}
use Rattle.tables.specs.Checks.{checked, all_of}
use Rattle.tables.specs.Lists.{first_from, first_at, is_found}
use Rattle.tables.specs.Sets.{claimed}
use Rattle.answers.specs.declared.Answer.TheVariants.{Granted, NotVoting, StaleEpoch, AlreadyVoted, VotedLately, Outdated, ClaimsNothing}
use Rattle.state.specs.Node.{record_at, listed, master_at, owns, role_at, followed}
use Rattle.state.specs.Changes.{with_records, with_clock, with_current, with_voted, arrived}
use Rattle.state.specs.Outcomes.{answered, Stepped}
use Rattle.state.specs.declared.Node.{Node}
use Rattle.state.specs.declared.Outcome.{Outcome}
use Rattle.soundness.specs.Sound.{arrays_whole, bounds_kept, before, ids_ascend, records_sound, election_sound, marks_ascend, marks_sound, own_clear, sound}
use Rattle.fresh.specs.Fresh.{fresh_node}
use Rattle.cases.specs.Cases.{cases_node}
use Rattle.slots.specs.Cases.{KeyRow, key_answered, key_rows}
use Rattle.slots.proofs.Cases.{key_cases}
use Rattle.hexdigits.proofs.Writing.{no_bytes, one_byte, bytes_append}
use Rattle.frames.specs.Lines.{Bytes, Fits}
use Rattle.frames.proofs.OneLine.{one_line}
use Rattle.refusals.specs.Refusals.{is_beyond, frame_refusals, refusals, refusal}
use Rattle.votes.specs.Votes.{request_checks, newer, granted, by_owners, requested}
use Rattle.kinds.specs.Kinds.{keeping, on_kind}
use Rattle.node.specs.Step.{on_frame}
use Rattle.tables.proofs.Checks.{part}
use Rattle.answers.proofs.Checks.{by_check}
use Rattle.promises.specs.Cases.{voter, slots, slots_of_others, reports, claim_of_slot0, claim_of_slot16383, claim_of_nothing, Asked, asks, ask, request_of, line_of, VoteRow, vote_rows, outdated_rows, empty_rows, empty_master_rows, Row, key, votes, vote_answered, votes_answered, AllCases}
use Rattle.answers.specs.declared.Answer.{Answer}
use Rattle.answers.specs.Refusing.{Check, cleared}
use Rattle.promises.specs.Cases as table

-- ---- one request of the table

abbrev arrived_at : Asked → Node → Node
arrived_at q n = arrived q.time q.epoch n

slots_long : length slots ≡ slot_count
unfolding slots
slots_long = refl

others_long : length slots_of_others ≡ slot_count
unfolding slots_of_others
others_long = refl

reports_long : length reports ≡ report_count
unfolding reports
reports_long = refl

-- a line that passes is the request: it reads as what was written
asked_step : (lent : List ℕ) → length lent ≡ slot_count → (n : Node) (q : Asked) (o : Outcome) → Fits (request_of q) q.bitmap → refusal n slot_count report_count (Some (request_of q)) ≡ cleared
    → requested (arrived_at q n) lent q.bitmap q.candidate q.epoch q.config ≡ o → on_frame n lent reports (line_of q) ≡ keeping lent reports o
unfolding line_of on_frame on_kind
asked_step lent l n q o f p e = rw (by_check, one_line.read_back (request_of q) q.bitmap f, one_line.bitmap_back (request_of q) q.bitmap f refl, l, reports_long, p, e)

-- where no owner is newer: only the slots 0, 1 and 2 have owners
unlisted : (c x l : Bool) → l ≡ false → all_of (c ∷ l ∷ x ∷ []) ≡ false
unlisted true x l e = rw e
unlisted false x l e = refl

older : (c l x : Bool) → x ≡ false → all_of (c ∷ l ∷ x ∷ []) ≡ false
older true true x e = e
older true false x e = refl
older false l x e = refl

skip : (p : ℕ → ℕ → Bool) (x : ℕ) → ((i : ℕ) → p i x ≡ false) → (k i : ℕ) → first_from p i (replicate k x) ≡ None
unfolding first_from
skip p x f zero i = refl
skip p x f (suc k) i = rw (f i) (skip p x f k (suc i))

none_passes : (p : ℕ → ℕ → Bool) (a b c x k : ℕ) → p 0 a ≡ false → p 1 b ≡ false → p 2 c ≡ false → ((i : ℕ) → p i x ≡ false) → first_at p (a ∷ b ∷ c ∷ replicate k x) ≡ None
unfolding first_from
none_passes p a b c x k d e f g = rw (d, e, f) (skip p x g k 3)

module _ (m : Node) (bitmap : List ℕ) (config : ℕ) where
  -- an owner's known configEpoch is not above the request's
  abbrev Older : ℕ → Type 0
  Older o = ltb config (record_at m o).config ≡ false

  owner_older : (k : ℕ) → Older k → newer m bitmap config k k ≡ false
  owner_older k o = older (claimed bitmap k) (listed m k) (ltb config (record_at m k).config) o

  nothing_newer : listed m unowned ≡ false → Older 0 → Older 1 → Older 2 → first_at (newer m bitmap config) slots ≡ None
  unfolding slots
  nothing_newer l a b c =
      none_passes (newer m bitmap config) 0 1 2 unowned 16381 (owner_older 0 a) (owner_older 1 b) (owner_older 2 c)
      (λ i. unlisted (claimed bitmap i) (ltb config (record_at m unowned).config) (listed m unowned) l)

-- then the checks decide
settles : (m : Node) (bitmap : List ℕ) (candidate epoch config : ℕ) (x : Option ℕ) → first_at (newer m bitmap config) slots ≡ x
    → requested m slots bitmap candidate epoch config ≡ checked (answered m) (request_checks m slots (role_at m candidate) bitmap epoch) (by_owners m (followed (role_at m candidate)) epoch x)
unfolding requested
settles m bitmap candidate epoch config x e = ap (λ (f : Option ℕ). checked (answered m) (request_checks m slots (role_at m candidate) bitmap epoch) (by_owners m (followed (role_at m candidate)) epoch f)) e

-- where node 1 owns nothing, 11 comes before all else
owns_nothing : owns slots_of_others 1 ≡ false
unfolding slots_of_others
owns_nothing = ap is_found (none_passes (λ place entry. eqb entry 1) 0 unowned 2 unowned 16381 refl refl refl (λ i. refl))

not_both : (b : Bool) → all_of (b ∷ false ∷ []) ≡ false
not_both true = refl
not_both false = refl

unslotted : (m : Node) (bitmap : List ℕ) (candidate epoch config : ℕ) → m.me ≡ 1 → requested m slots_of_others bitmap candidate epoch config ≡ answered m NotVoting
unfolding requested
unslotted m bitmap candidate epoch config e = rw (e, owns_nothing, not_both (master_at m 1))

-- ---- the requests

abbrev q1 : Asked
q1 = ask 3 4 2 1000

abbrev q2 : Asked
q2 = ask 3 5 2 1000

abbrev q4 : Asked
q4 = ask 4 6 2 2999

abbrev q5 : Asked
q5 = ask 4 6 2 3000

abbrev q6 : Asked
q6 = ask 3 5 1 1000

abbrev q7 : Asked
q7 = asks 3 6 2 1000 claim_of_nothing

abbrev q8 : Asked
q8 = asks 3 6 2 1000 claim_of_slot16383

abbrev q9 : Asked
q9 = ask 3 6 2 1000

-- ---- each fits its line

abbrev Bitmap : List ℕ → Type 0
Bitmap m = (length m ≡ 2048) × Bytes m

zeros : (n : ℕ) → Bytes (replicate n 0)
zeros zero = no_bytes
zeros (suc n) = one_byte 0 (replicate n 0) (omega arith) (zeros n)

slot_0_alone : Bitmap claim_of_slot0
unfolding claim_of_slot0
slot_0_alone = (refl, one_byte 0x01 (replicate 2047 0) (omega arith) (zeros 2047))

slot_16383_alone : Bitmap claim_of_slot16383
unfolding claim_of_slot16383
slot_16383_alone = (refl, bytes_append (replicate 2047 0) (0x80 ∷ []) (zeros 2047) (one_byte 0x80 [] (omega arith) no_bytes))

no_slot : Bitmap claim_of_nothing
unfolding claim_of_nothing
no_slot = (refl, zeros 2048)

-- and so do the numbers, which are small
abbrev smalls : Asked → List Bool
smalls q = ltb q.candidate 256 ∷ ltb q.epoch 4096 ∷ ltb q.config 4096 ∷ ltb q.time 4096 ∷ []

fits : (q : Asked) → Bitmap q.bitmap → all_of (smalls q) ≡ true → Fits (request_of q) q.bitmap
fits q m s = (
  one_byte 4 (q.candidate ∷ replicate 2 0) (omega arith) (one_byte q.candidate (replicate 2 0) (ltb-true q.candidate 256 (part 0 (smalls q) s)) (zeros 2)),
  (number q.epoch (part 1 (smalls q) s), number q.config (part 2 (smalls q) s), number q.time (part 3 (smalls q) s), m.0, m.1),
)
  where
    number : (x : ℕ) → ltb x 4096 ≡ true → x < 256 ^ 8
    number x h = omega (arith, ltb-true x 4096 h)

-- ---- the voter after each

abbrev n1 : Node
n1 = arrived_at q1 voter

abbrev n2 : Node
n2 = granted 0 5 (arrived_at q2 n1)

abbrev n3 : Node
n3 = arrived_at q2 n2

abbrev n4 : Node
n4 = arrived_at q4 n3

abbrev n5 : Node
n5 = granted 0 6 (arrived_at q5 n4)

abbrev n7 : Node
n7 = arrived_at q7 voter

abbrev n8 : Node
n8 = granted 0 6 (arrived_at q8 n7)

-- without slots it grants nothing
abbrev n9 : Node
n9 = arrived_at q2 n1

abbrev n10 : Node
n10 = arrived_at q9 n9

-- and none is turned away
abbrev looks : Node → Asked → Check
looks n q = refusal n slot_count report_count (Some (request_of q))

abbrev checks : List Check
checks = looks voter q1 ∷ looks n1 q2 ∷ looks n2 q2 ∷ looks n3 q4 ∷ looks n4 q5 ∷ looks voter q6 ∷ looks voter q7 ∷ looks n7 q8 ∷ looks n9 q9 ∷ []

all_pass : checks ≡ replicate 9 cleared
unfolding every with_records with_clock with_current with_voted fresh_node cases_node arrays_whole bounds_kept before ids_ascend records_sound election_sound marks_ascend marks_sound own_clear sound is_beyond frame_refusals refusals granted voter
all_pass = refl

passes : (k : ℕ) → get_or checks k cleared ≡ get_or (replicate 9 cleared) k cleared
passes k = ap (λ (l : List Check). get_or l k cleared) all_pass

vote1 : requested n1 slots claim_of_slot0 3 4 2 ≡ answered n1 StaleEpoch
unfolding with_records with_clock with_current with_voted fresh_node cases_node granted voter requested slots first_from
vote1 = refl

vote2 : requested (arrived_at q2 n1) slots claim_of_slot0 3 5 2 ≡ answered n2 Granted
unfolding with_records with_clock with_current with_voted fresh_node cases_node granted voter claim_of_slot0 slots first_from
vote2 = settles (arrived_at q2 n1) claim_of_slot0 3 5 2 None (nothing_newer (arrived_at q2 n1) claim_of_slot0 2 refl refl refl refl)

vote3 : requested n3 slots claim_of_slot0 3 5 2 ≡ answered n3 AlreadyVoted
unfolding with_records with_clock with_current with_voted fresh_node cases_node granted voter requested slots first_from
vote3 = refl

vote4 : requested n4 slots claim_of_slot0 4 6 2 ≡ answered n4 VotedLately
unfolding with_records with_clock with_current with_voted fresh_node cases_node granted voter requested claim_of_slot0 slots first_from
vote4 = refl

vote5 : requested (arrived_at q5 n4) slots claim_of_slot0 4 6 2 ≡ answered n5 Granted
unfolding with_records with_clock with_current with_voted fresh_node cases_node granted voter claim_of_slot0 slots first_from
vote5 = settles (arrived_at q5 n4) claim_of_slot0 4 6 2 None (nothing_newer (arrived_at q5 n4) claim_of_slot0 2 refl refl refl refl)

slot_0 : first_at (newer (arrived_at q6 voter) claim_of_slot0 1) slots ≡ Some 0
unfolding with_records with_clock with_current with_voted fresh_node cases_node voter slots first_from claim_of_slot0
slot_0 = refl

vote6 : requested (arrived_at q6 voter) slots claim_of_slot0 3 5 1 ≡ answered (arrived_at q6 voter) (Outdated 0)
unfolding with_records with_clock with_current with_voted fresh_node cases_node granted voter claim_of_slot0 slots first_from
vote6 = settles (arrived_at q6 voter) claim_of_slot0 3 5 1 (Some 0) slot_0

vote7 : requested n7 slots claim_of_nothing 3 6 2 ≡ answered n7 ClaimsNothing
unfolding with_records with_clock with_current with_voted fresh_node cases_node granted voter requested claim_of_nothing slots first_from
vote7 = refl

vote8 : requested (arrived_at q8 n7) slots claim_of_slot16383 3 6 2 ≡ answered n8 Granted
unfolding with_records with_clock with_current with_voted fresh_node cases_node granted voter claim_of_slot16383 slots first_from
vote8 = settles (arrived_at q8 n7) claim_of_slot16383 3 6 2 None (nothing_newer (arrived_at q8 n7) claim_of_slot16383 2 refl refl refl refl)

-- ---- the rows, one after the other

row : (lent : List ℕ) (n : Node) (r : VoteRow) (rs : List VoteRow) (s : Stepped) → on_frame n lent reports (line_of r.asked) ≡ s → vote_answered r.asked s ≡ r → votes_answered lent s.outcome.node rs ≡ rs
    → votes_answered lent n (r ∷ rs) ≡ r ∷ rs
unfolding votes_answered
row lent n r rs s e f g = rw (e, f, g)

done : (lent : List ℕ) (n : Node) → votes_answered lent n [] ≡ []
unfolding votes_answered
done lent n = refl

votes_cases : votes_answered slots voter vote_rows ≡ vote_rows
unfolding with_records with_clock with_current with_voted fresh_node cases_node granted voter
votes_cases =
    row slots voter _ _ _ (asked_step slots slots_long voter q1 _ (fits q1 slot_0_alone refl) (passes 0) vote1) refl
    (row slots n1 _ _ _ (asked_step slots slots_long n1 q2 _ (fits q2 slot_0_alone refl) (passes 1) vote2) refl
    (row slots n2 _ _ _ (asked_step slots slots_long n2 q2 _ (fits q2 slot_0_alone refl) (passes 2) vote3) refl
    (row slots n3 _ _ _ (asked_step slots slots_long n3 q4 _ (fits q4 slot_0_alone refl) (passes 3) vote4) refl
    (row slots n4 _ _ _ (asked_step slots slots_long n4 q5 _ (fits q5 slot_0_alone refl) (passes 4) vote5) refl (done slots n5)))))

outdated_cases : votes_answered slots voter outdated_rows ≡ outdated_rows
unfolding with_records with_clock with_current with_voted fresh_node cases_node voter
outdated_cases = row slots voter _ _ _ (asked_step slots slots_long voter q6 _ (fits q6 slot_0_alone refl) (passes 5) vote6) refl (done slots _)

empty_cases : votes_answered slots voter empty_rows ≡ empty_rows
unfolding with_records with_clock with_current with_voted fresh_node cases_node granted voter
empty_cases =
    row slots voter _ _ _ (asked_step slots slots_long voter q7 _ (fits q7 no_slot refl) (passes 6) vote7) refl
    (row slots n7 _ _ _ (asked_step slots slots_long n7 q8 _ (fits q8 slot_16383_alone refl) (passes 7) vote8) refl (done slots n8))

empty_master_cases : votes_answered slots_of_others voter empty_master_rows ≡ empty_master_rows
unfolding with_records with_clock with_current with_voted fresh_node cases_node voter
empty_master_cases =
    row slots_of_others voter _ _ _ (asked_step slots_of_others others_long voter q1 _ (fits q1 slot_0_alone refl) (passes 0) (unslotted n1 claim_of_slot0 3 4 2 refl)) refl
    (row slots_of_others n1 _ _ _ (asked_step slots_of_others others_long n1 q2 _ (fits q2 slot_0_alone refl) (passes 1) (unslotted n9 claim_of_slot0 3 5 2 refl)) refl
    (row slots_of_others n9 _ _ _ (asked_step slots_of_others others_long n9 q9 _ (fits q9 slot_0_alone refl) (passes 8) (unslotted n10 claim_of_slot0 3 6 2 refl)) refl (done slots_of_others n10)))

key_rows_lem : (ks : List KeyRow) (rest : List Row) → map table.row_answered (map key ks ++ rest) ≡ map key (map key_answered ks) ++ map table.row_answered rest
key_rows_lem [] rest = refl
key_rows_lem (k ∷ ks) rest = ap (λ (rs : List Row). key (key_answered k) ∷ rs) (key_rows_lem ks rest)

pub all_cases : AllCases
all_cases =
    key_rows_lem key_rows (votes slots vote_rows ∷ votes slots outdated_rows ∷ votes slots empty_rows ∷ votes slots_of_others empty_master_rows ∷ [])
    ∙ (λ i. map key (key_cases i) ++ votes slots (votes_cases i) ∷ votes slots (outdated_cases i) ∷ votes slots (empty_cases i) ∷ votes slots_of_others (empty_master_cases i) ∷ [])
