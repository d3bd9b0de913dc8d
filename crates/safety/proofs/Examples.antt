-- The computed examples of demand 3. A vote request is computed up to its looks at the bitmap, which is computed apart, and at
-- the owners of the slots that it claims, which a law answers; all else is computed whole.
use Rattle.std.specs.Prelude.{None, Option}
use mathlib.Core.Path.{◌≡◌, refl, sym, ap, ap₂, ◌∙◌, subst}
use mathlib.Core.Logic.{inl, inr}
use mathlib.Core.Bool.{Bool, true, false, cond}
use mathlib.Core.List.{List, [], ◌∷◌, map}
use Prim.Native.Nat.{ℕ, zero, suc}
use native.Mathlib.Omega.{arith}
use native.Mathlib.Decide.{ℕ_discrete}
use lib.Dec.{eqb, ltb}
use lib.Count.{ones}
use lib.ListN.{replicate}
use borrow.Author.Tests.{ne_eqb}
use Rattle.tables.specs.Sizes.{unowned}
use Rattle.tables.specs.Checks.{all_of}
use Rattle.tables.specs.Below.{every}
use Rattle.tables.specs.Lists.{map_from, first_from, first_at}
use Rattle.tables.specs.Sets.{claimed, word_of, words_from}
use Rattle.nodesets.specs.NodeSets.{gathered}
use Rattle.answers.specs.Answers.{number}
use Rattle.answers.specs.declared.Answer.TheVariants.{ClaimsNothing}
use Rattle.state.specs.Node.{record_at, listed, owns}
use Rattle.state.specs.Changes.{with_records, with_current, with_voted, with_clock, with_election, arrived}
use Rattle.state.specs.Outcomes.{answered}
use Rattle.state.specs.declared.Node.{Node}
use Rattle.soundness.specs.Sound.{arrays_whole, bounds_kept, before, ids_ascend, records_sound, election_sound, marks_ascend, marks_sound, own_clear, sound}
use Rattle.fresh.specs.Fresh.{fresh_node}
use Rattle.hexdigits.specs.Hex.{is_digit, digit, all_digits, byte_at, number_at, bytes_at, character, hex, bytes_of}
use Rattle.frames.specs.Frames.{frame_of, bitmap_of}
use Rattle.frames.specs.Lines.{encode}
use Rattle.frames.specs.declared.Kind.TheVariants.{Request}
use Rattle.refusals.specs.Refusals.{is_beyond, frame_refusals, refusals}
use Rattle.reports.specs.Reports.{failed}
use Rattle.heartbeats.specs.Heartbeats.{with_sender, heartbeat}
use Rattle.votes.specs.Votes as votes
use Rattle.claims.specs.Claims.{empty}
use Rattle.votes.specs.Votes.{newer, by_owners, requested}
use Rattle.openings.specs.Openings as openings
use Rattle.openings.specs.Openings.{opens}
use Rattle.acks.specs.Acks.{promoted, acked}
use Rattle.kinds.specs.Kinds.{on_kind}
use Rattle.node.specs.Step.{on_frame}
use Rattle.safety.specs.Deeds.{Deed, granted, counted, won, opened, announced, other, Did, Has, Counted, Won, voting_set}
use Rattle.safety.specs.Calls.{kind_deed}
use Rattle.safety.specs.Demand3.{Roster, master_by, SameSet, Made, state_of, history, AllGranted}
use Rattle.safety.specs.Examples.{roster, wider, timeouts, deeds, fail_line, request_line, owned_by, tables, gets, winning, differing, differing3, differing4, dividing, dividing3, dividing4, made_up_acks, before_win, ANodeWins, SetsThatDiffer, TablesThatDiffer, AcksMadeUp, Examples}

-- ---- a vote request: no owner in the lent tables has a configEpoch above 0, whatever the bitmap claims

unlisted_owner : (claims epoch : Bool) → all_of (claims ∷ false ∷ epoch ∷ []) ≡ false
unlisted_owner true epoch = refl
unlisted_owner false epoch = refl

no_newer_owner : (claims known : Bool) → all_of (claims ∷ known ∷ false ∷ []) ≡ false
no_newer_owner true true = refl
no_newer_owner true false = refl
no_newer_owner false known = refl

none_owned : (n : Node) (bitmap : List ℕ) (i k : ℕ) → listed n unowned ≡ false → first_from (newer n bitmap 0) i (replicate k unowned) ≡ None
unfolding first_from
none_owned n bitmap i zero h = refl
none_owned n bitmap i (suc k) h = rw (h, unlisted_owner (claimed bitmap i) (ltb 0 (record_at n unowned).config)) (none_owned n bitmap (suc i) k h)

past_owner : (n : Node) (bitmap : List ℕ) (i owner : ℕ) (rest : List ℕ) → ltb 0 (record_at n owner).config ≡ false → first_from (newer n bitmap 0) (suc i) rest ≡ None → first_from (newer n bitmap 0) i (owner ∷ rest) ≡ None
unfolding first_from
past_owner n bitmap i owner rest z h = rw (z, no_newer_owner (claimed bitmap i) (listed n owner)) h

none_newer : (n : Node) (bitmap : List ℕ) (first second : ℕ) → listed n unowned ≡ false → ltb 0 (record_at n 0).config ≡ false → ltb 0 (record_at n first).config ≡ false → ltb 0 (record_at n second).config ≡ false
    → first_at (newer n bitmap 0) (owned_by first second).slots ≡ None
none_newer n bitmap first second h z f s = past_owner n bitmap 0 0 _ z (past_owner n bitmap 1 first _ f (past_owner n bitmap 2 second _ s (none_owned n bitmap 3 16381 h)))

-- node v, when it has heard from s that node 0 is FAIL, whatever the tables then, and takes in a request
abbrev asked : Roster → ℕ → ℕ → Node
asked r v s = arrived 0 1 (state_of r timeouts (gets v (fail_line s) ∷ []) v)

-- what it did once the request of c was answered, by whether the bitmap is empty and by what the look at the table finds
abbrev voter : Roster → ℕ → ℕ → ℕ → Bool → Option ℕ → List Deed
voter r v s c t x =
    let n = asked r v s in
    kind_deed (record { time = 0; epoch = 1; config = 0 }) (Request c) (number (cond t (answered n ClaimsNothing) (by_owners n 0 1 x)).answer) ∷ other ∷ []

-- the requests of 3 and 4 claim a slot
claims3 : empty (bitmap_of (request_line 3)) ≡ false
unfolding character hex bytes_of encode is_digit digit byte_at bytes_at bitmap_of
claims3 = refl

claims4 : empty (bitmap_of (request_line 4)) ≡ false
unfolding character hex bytes_of encode is_digit digit byte_at bytes_at bitmap_of
claims4 = refl

-- ---- what each node did

record Lives : Type 0 where
  winner : deeds winning 3 ≡ won 2 1 ∷ before_win
  winner_voter1 : deeds winning 1 ≡ granted 1 3 ∷ other ∷ []
  winner_voter2 : deeds winning 2 ≡ granted 1 3 ∷ other ∷ []
  first : deeds differing 3 ≡ won 1 1 ∷ differing3
  second : deeds differing 4 ≡ won 2 1 ∷ differing4
  first_voter : deeds differing 1 ≡ granted 1 3 ∷ other ∷ []
  second_voter : deeds differing 2 ≡ granted 1 4 ∷ other ∷ []
  loser : deeds made_up_acks 4 ≡ won 2 1 ∷ before_win
  divided3 : history wider timeouts dividing 3 ≡ won 2 1 ∷ dividing3
  divided4 : history wider timeouts dividing 4 ≡ won 6 1 ∷ dividing4
  divided_voter1 : history wider timeouts dividing 1 ≡ granted 1 3 ∷ other ∷ []
  divided_voter2 : history wider timeouts dividing 2 ≡ granted 1 3 ∷ other ∷ []
  divided_voter5 : history wider timeouts dividing 5 ≡ granted 1 4 ∷ other ∷ []
  divided_voter6 : history wider timeouts dividing 6 ≡ granted 1 4 ∷ other ∷ []

lives : Lives
unfolding every map_from word_of words_from first_from gathered with_records with_current with_voted with_clock with_election arrays_whole bounds_kept before ids_ascend records_sound election_sound marks_ascend marks_sound own_clear sound fresh_node is_digit digit all_digits byte_at number_at character hex bytes_of frame_of encode is_beyond frame_refusals refusals failed with_sender heartbeat votes.granted requested openings.opening opens promoted acked on_kind on_frame ones winning differing made_up_acks dividing
lives = record {
  winner = refl;
  winner_voter1 = ap₂ (voter roster 1 2 3) claims3 (none_newer (asked roster 1 2) (bitmap_of (request_line 3)) 1 2 refl refl refl refl);
  winner_voter2 = ap₂ (voter roster 2 1 3) claims3 (none_newer (asked roster 2 1) (bitmap_of (request_line 3)) 1 2 refl refl refl refl);
  first = refl;
  second = refl;
  first_voter = ap₂ (voter roster 1 2 3) claims3 (none_newer (asked roster 1 2) (bitmap_of (request_line 3)) 1 2 refl refl refl refl);
  second_voter = ap₂ (voter roster 2 1 4) claims4 (none_newer (asked roster 2 1) (bitmap_of (request_line 4)) 1 2 refl refl refl refl);
  loser = refl;
  divided3 = refl;
  divided4 = refl;
  divided_voter1 = ap₂ (voter wider 1 2 3) claims3 (none_newer (asked wider 1 2) (bitmap_of (request_line 3)) 1 2 refl refl refl refl);
  divided_voter2 = ap₂ (voter wider 2 1 3) claims3 (none_newer (asked wider 2 1) (bitmap_of (request_line 3)) 1 2 refl refl refl refl);
  divided_voter5 = ap₂ (voter wider 5 6 4) claims4 (none_newer (asked wider 5 6) (bitmap_of (request_line 4)) 5 6 refl refl refl refl);
  divided_voter6 = ap₂ (voter wider 6 5 4) claims4 (none_newer (asked wider 6 5) (bitmap_of (request_line 4)) 5 6 refl refl refl refl);
}

-- in the last list the others do what they did in the first
record Still : Type 0 where
  winner : deeds made_up_acks 3 ≡ deeds winning 3
  voter1 : deeds made_up_acks 1 ≡ deeds winning 1
  voter2 : deeds made_up_acks 2 ≡ deeds winning 2

still : Still
unfolding made_up_acks
still = record { winner = refl; voter1 = refl; voter2 = refl }

-- ---- whose acks were counted

-- the voter of an ack that was answered 0 or 30, plus one; else 0
abbrev ack_of : Deed → ℕ
ack_of (granted e c) = 0
ack_of (counted v e) = suc v
ack_of (won v e) = suc v
ack_of (opened slots) = 0
ack_of (announced s m) = 0
ack_of other = 0

did_ack : (d : Deed) (h : List Deed) → Did d h → Has (ack_of d) (map ack_of h)
did_ack d [] x = absurd x
did_ack d (x ∷ h) (inl p) = inl (ap ack_of p)
did_ack d (x ∷ h) (inr q) = inr (did_ack d h q)

counted_ack : (v e : ℕ) (h : List Deed) → Counted v e h → Has (suc v) (map ack_of h)
counted_ack v e h (inl c) = did_ack (counted v e) h c
counted_ack v e h (inr w) = did_ack (won v e) h w

no_ack : (v k : ℕ) → Has (suc v) (replicate k 0) → ⊥
no_ack v zero h = h
no_ack v (suc k) (inl p) = omega (arith, p)
no_ack v (suc k) (inr h) = no_ack v k h

-- the one voter whose ack was counted granted what it acked
one_ack : (ms : List Made) (a u k : ℕ) → map ack_of (deeds ms a) ≡ suc u ∷ replicate k 0 → Did (granted 1 a) (deeds ms u) → AllGranted roster timeouts ms a 1
one_ack ms a u k e g v c = go (subst (Has (suc v)) e (counted_ack v 1 (deeds ms a) c))
  where
    go : Has (suc v) (suc u ∷ replicate k 0) → Did (granted 1 a) (deeds ms v)
    go (inl p) = subst (λ (x : ℕ). Did (granted 1 a) (deeds ms x)) (omega (arith, p)) g
    go (inr h) = absurd (no_ack v k h)

-- and so did each of the two
two_acks : (r : Roster) (ms : List Made) (a u w k : ℕ) → map ack_of (history r timeouts ms a) ≡ suc u ∷ suc w ∷ replicate k 0
    → Did (granted 1 a) (history r timeouts ms u) → Did (granted 1 a) (history r timeouts ms w) → AllGranted r timeouts ms a 1
two_acks r ms a u w k e g g' v c = go (subst (Has (suc v)) e (counted_ack v 1 (history r timeouts ms a) c))
  where
    go : Has (suc v) (suc u ∷ suc w ∷ replicate k 0) → Did (granted 1 a) (history r timeouts ms v)
    go (inl p) = subst (λ (x : ℕ). Did (granted 1 a) (history r timeouts ms x)) (omega (arith, p)) g
    go (inr (inl p)) = subst (λ (x : ℕ). Did (granted 1 a) (history r timeouts ms x)) (omega (arith, p)) g'
    go (inr (inr h)) = absurd (no_ack v k h)

-- the last thing that was done was done
did_last : (d : Deed) (h h' : List Deed) → h ≡ d ∷ h' → Did d h
did_last d h h' e = subst (Did d) (sym e) (inl refl)

won_last : (e v : ℕ) (h before : List Deed) → h ≡ won v e ∷ before → Won e h before
won_last e v h before p = subst (λ (x : List Deed). Won e x before) (sym p) (inl (v, refl, refl))

-- ---- the examples

a_node_wins : ANodeWins
a_node_wins = record { candidate = lives.winner; voter1 = lives.winner_voter1; voter2 = lives.winner_voter2 }

sets_that_differ : SetsThatDiffer
unfolding first_from
sets_that_differ = record {
  both = record { first = won_last 1 1 _ _ lives.first; second = won_last 1 2 _ _ lives.second };
  granted3 = one_ack differing 3 1 4 (ap (map ack_of) lives.first) (did_last _ _ _ lives.first_voter);
  granted4 = one_ack differing 4 2 4 (ap (map ack_of) lives.second) (did_last _ _ _ lives.second_voter);
  in3 = refl;
  not_in4 = refl;
}

tables_that_differ : TablesThatDiffer
unfolding first_from
tables_that_differ = record {
  both = record { first = won_last 1 2 _ _ lives.divided3; second = won_last 1 6 _ _ lives.divided4 };
  granted3 = two_acks wider dividing 3 2 1 2 (ap (map ack_of) lives.divided3) (did_last _ _ _ lives.divided_voter2) (did_last _ _ _ lives.divided_voter1);
  granted4 = two_acks wider dividing 4 6 5 2 (ap (map ack_of) lives.divided4) (did_last _ _ _ lives.divided_voter6) (did_last _ _ _ lives.divided_voter5);
  same_masters = λ k. refl;
  in3 = refl;
  not_in4 = refl;
}

-- neither 3 nor 4 is a master
same_set : SameSet roster 3 before_win 4 before_win
same_set k = go (ℕ_discrete k 3) (ℕ_discrete k 4)
  where
    P : ℕ → Type 0
    P x = voting_set (master_by roster) 3 before_win x ≡ voting_set (master_by roster) 4 before_win x

    both_others : (c d m : Bool) → c ≡ false → d ≡ false → cond c false m ≡ cond d false m
    both_others c d m p q = rw (p, q)

    go : Dec (k ≡ 3) → Dec (k ≡ 4) → P k
    go (yes e) f = subst P (sym e) refl
    go (no e) (yes f) = subst P (sym f) refl
    go (no e) (no f) = both_others (eqb k 3) (eqb k 4) (all_of (master_by roster k ∷ owns tables.slots k ∷ [])) (ne_eqb k 3 e) (ne_eqb k 4 f)

-- to whom a grant went; else 0
abbrev granted_to : Deed → ℕ
granted_to (granted e c) = c
granted_to (counted v e) = 0
granted_to (won v e) = 0
granted_to (opened slots) = 0
granted_to (announced s m) = 0
granted_to other = 0

to_another : Did (granted 1 4) (granted 1 3 ∷ other ∷ []) → ⊥
to_another (inl p) = let z : ◌≡◌ {A = ℕ} 3 4 = ap granted_to p in omega (arith, z)
to_another (inr (inl p)) = let z : ◌≡◌ {A = ℕ} 0 4 = ap granted_to p in omega (arith, z)
to_another (inr (inr p)) = p

acks_made_up : AcksMadeUp
acks_made_up = record {
  both = record { first = won_last 1 2 _ _ winner; second = won_last 1 2 _ _ lives.loser };
  sets = same_set;
  granted3 = two_acks roster made_up_acks 3 2 1 2 (ap (map ack_of) winner) (did_last _ _ _ (still.voter2 ∙ lives.winner_voter2)) (did_last _ _ _ voter1);
  counted4 = inl (subst (Did (counted 1 1)) (sym lives.loser) (inr (inl refl)));
  ungranted = λ d. to_another (subst (Did (granted 1 4)) voter1 d);
}
  where
    winner : deeds made_up_acks 3 ≡ won 2 1 ∷ before_win
    winner = still.winner ∙ lives.winner

    voter1 : deeds made_up_acks 1 ≡ granted 1 3 ∷ other ∷ []
    voter1 = still.voter1 ∙ lives.winner_voter1

pub examples : Examples
examples = record { wins = a_node_wins; differ = sets_that_differ; tables_differ = tables_that_differ; made_up = acks_made_up }
