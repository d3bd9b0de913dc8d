-- The computed lists. The claims go by their law (`Claimed`), all other calls are computed.
use mathlib.Core.Path.{◌≡◌, refl, sym, ap, subst, ◌∙◌}
use mathlib.Core.Bool.{true}
use mathlib.Core.List.{List, [], ◌∷◌}
use Prim.Native.Nat.{ℕ}
use native.Mathlib.Omega.{arith}
use lib.Count.{ones}
use Rattle.tables.specs.Below.{every}
use Rattle.tables.specs.Lists.{map_from, count_from, first_from}
use Rattle.tables.specs.Sets.{word_of, words_from}
use Rattle.nodesets.specs.NodeSets.{gathered}
use Rattle.answers.specs.declared.Answer.TheVariants.{Won}
use Rattle.state.specs.Node.{master_at}
use Rattle.state.specs.Changes.{with_records, with_current, with_clock, with_election, arrived}
use Rattle.state.specs.declared.Node.{Node}
use Rattle.state.specs.declared.Role.TheVariants.{Master}
use Rattle.soundness.specs.Sound.{arrays_whole, bounds_kept, before, ids_ascend, records_sound, election_sound, marks_ascend, marks_sound, own_clear, sound}
use Rattle.fresh.specs.Fresh.{fresh_node}
use Rattle.hexdigits.specs.Hex.{is_digit, digit, all_digits, byte_at, number_at, character, hex, bytes_of}
use Rattle.frames.specs.Frames.{frame_of}
use Rattle.frames.specs.Lines.{encode}
use Rattle.refusals.specs.Refusals.{is_beyond, frame_refusals, refusals}
use Rattle.reports.specs.Reports.{failed}
use Rattle.records.specs.Known.{known_configs}
use Rattle.ownership.specs.Claim.{claimant, fate, claim}
use Rattle.heartbeats.specs.Heartbeats.{with_sender, bumped, heartbeat}
use Rattle.openings.specs.Openings as openings
use Rattle.openings.specs.Openings.{opens}
use Rattle.acks.specs.Acks.{promoted, acked}
use Rattle.kinds.specs.Kinds.{on_kind}
use Rattle.node.specs.Step.{on_frame}
use Rattle.node.specs.Calls.{Call, opening}
use Rattle.monotone.specs.Runs.{World, Step, after, run}
use Rattle.monotone.specs.NeverSlidesBack.{epoch_of, Owned, NeverSlidesBack}
use Rattle.monotone.specs.Before.{before14}
use Rattle.monotone.specs.Examples.{others, start, claims, fails, votes, opened, wins, beaten, back, wins_all_the_same, slot0, last_answer, PassesTwice, NothingPasses, SlidBack, restored_as, restored, NotFromAnyState, Examples}
use Rattle.monotone.proofs.Claimed.{Heard, heard, Unwon, unwon, after_claim, before_claim, first_bound}
use Rattle.monotone.proofs.Onward.{left}

-- ---- the worlds of the lists

-- node 0 has claimed slot 0
abbrev bound : World
bound = record { node = (heard start 0 1).outcome.node; tables = record { slots = 0 ∷ others; reports = start.tables.reports } }

-- the calls up to the last vote
abbrev rest : List Call
rest = votes 1 2 ∷ opening 0 ∷ fails ∷ []

abbrev halfway : World
halfway = run after bound rest

abbrev won : World
won = after halfway (votes 2 2)

abbrev returned : World
returned = left (heard halfway 0 5)

abbrev won_all_the_same : World
won_all_the_same = after returned (votes 2 2)

-- what is computed of them: the claims are heard, no call before the last vote is answered 30, and what is read at last
record Computed : Type 0 where
  first : Heard start 0 1
  beats : Heard won 1 3
  returns : Heard halfway 0 5
  at_fail : Unwon bound fails
  at_opening : Unwon (run after bound (fails ∷ [])) (opening 0)
  at_vote : Unwon (run after bound (opening 0 ∷ fails ∷ [])) (votes 1 2)
  bound : slot0 halfway ≡ (0, 1)
  by_a_win : slot0 won ≡ (3, 2)
  told : last_answer halfway ≡ Won 1
  by_a_claim : slot0 (left (heard won 1 3)) ≡ (1, 3)
  risen : slot0 returned ≡ (0, 5)
  owned : Owned returned 0
  stays : slot0 won_all_the_same ≡ (0, 5)
  told_none : last_answer returned ≡ Won 0
  master : master_at won_all_the_same.node 3 ≡ true
  epoch : epoch_of won_all_the_same 3 ≡ 2
  fallen : slot0 (before14 returned (votes 2 2)) ≡ (3, 2)
  restored_sound : sound (restored_as halfway).node ≡ true
  restored_owns : slot0 (restored_as halfway) ≡ (3, 5)
  restored_owned : Owned (restored_as halfway) 0
  restored_falls : slot0 (after (restored_as halfway) (votes 2 2)) ≡ (3, 2)

computed : Computed
unfolding every map_from count_from first_from word_of words_from gathered with_records with_current with_clock with_election arrays_whole bounds_kept before ids_ascend records_sound election_sound marks_ascend marks_sound own_clear sound fresh_node is_digit digit all_digits byte_at number_at character hex bytes_of frame_of encode is_beyond frame_refusals refusals failed known_configs fate claim with_sender bumped heartbeat openings.opening opens promoted acked on_kind on_frame ones start
computed = record {
  first = record { small = refl; slots = refl; reports = refl; passes = refl };
  beats = record { small = refl; slots = refl; reports = refl; passes = refl };
  returns = record { small = refl; slots = refl; reports = refl; passes = refl };
  at_fail = refl;
  at_opening = refl;
  at_vote = refl;
  bound = refl;
  by_a_win = refl;
  told = refl;
  by_a_claim = refl;
  risen = refl;
  owned = omega arith;
  stays = refl;
  told_none = refl;
  master = refl;
  epoch = refl;
  fallen = refl;
  restored_sound = refl;
  restored_owns = refl;
  restored_owned = omega arith;
  restored_falls = refl;
}

-- ---- the lists lead to them

-- the table that the first claim leaves
bound_slots : (heard start 0 1).slots ≡ 0 ∷ others
unfolding start heartbeat with_sender with_records with_current with_clock fresh_node
bound_slots = first_bound (claimant (known_configs told.size told.records) told.size 0 1) 2047 others (omega arith)
  where
    told : Node
    told = with_sender 0 Master 1 (arrived 0 1 start.node)

is_bound : left (heard start 0 1) ≡ bound
is_bound = ap (λ (l : List ℕ). record { node = (heard start 0 1).outcome.node; tables = record { slots = l; reports = start.tables.reports } }) bound_slots

is_halfway : run after start opened ≡ halfway
unfolding opened
is_halfway = ap (λ (w : World). run after w rest) (after_claim start 0 1 computed.first ∙ is_bound)

is_back : run after start back ≡ returned
unfolding back
is_back = ap (λ (w : World). after w (claims 0 5)) is_halfway ∙ after_claim halfway 0 5 computed.returns

is_beaten : run after start beaten ≡ left (heard won 1 3)
unfolding beaten wins
is_beaten = ap (λ (w : World). after (after w (votes 2 2)) (claims 1 3)) is_halfway ∙ after_claim won 1 3 computed.beats

-- by the step before [14] too, up to the last vote
was_halfway : run before14 start opened ≡ halfway
unfolding opened
was_halfway =
    ap (λ (w : World). run before14 w rest) (before_claim start 0 1 computed.first ∙ is_bound)
    ∙ ap (λ (w : World). run before14 w (votes 1 2 ∷ opening 0 ∷ [])) (unwon bound fails computed.at_fail)
    ∙ ap (λ (w : World). before14 w (votes 1 2)) (unwon (run after bound (fails ∷ [])) (opening 0) computed.at_opening)
    ∙ unwon (run after bound (opening 0 ∷ fails ∷ [])) (votes 1 2) computed.at_vote

was_back : run before14 start back ≡ returned
unfolding back
was_back = ap (λ (w : World). before14 w (claims 0 5)) was_halfway ∙ before_claim halfway 0 5 computed.returns

-- ---- the examples

twice : PassesTwice
unfolding wins
twice = record {
  bound = ap slot0 is_halfway ∙ computed.bound;
  by_a_win = ap (λ (w : World). slot0 (after w (votes 2 2))) is_halfway ∙ computed.by_a_win;
  told = ap last_answer is_halfway ∙ computed.told;
  by_a_claim = ap slot0 is_beaten ∙ computed.by_a_claim;
}

nothing : NothingPasses
unfolding wins_all_the_same
nothing = record {
  risen = ap slot0 is_back ∙ computed.risen;
  stays = ap (λ (w : World). slot0 (after w (votes 2 2))) is_back ∙ computed.stays;
  told = ap last_answer is_back ∙ computed.told_none;
  master = ap (λ (w : World). master_at (after w (votes 2 2)).node 3) is_back ∙ computed.master;
  epoch = ap (λ (w : World). epoch_of (after w (votes 2 2)) 3) is_back ∙ computed.epoch;
}

-- a list by which the last vote takes the epoch from 5 to 2
refutes : (step : Step) (w : World) (cs : List Call) (k j : ℕ) → Owned (run step w cs) 0 → slot0 (run step w cs) ≡ (k, 5) → slot0 (step (run step w cs) (votes 2 2)) ≡ (j, 2) → NeverSlidesBack step w → ⊥
refutes step w cs k j o e f h =
    let l = (h (votes 2 2 ∷ []) cs 0 (omega arith) o).not_lower in
    omega (arith, l, ap (λ (p : ℕ × ℕ). p.1) e, ap (λ (p : ℕ × ℕ). p.1) f)

slid_back : SlidBack
unfolding wins_all_the_same
slid_back = record { risen = risen; fallen = fallen; refuted = refutes before14 start back 0 3 owned risen fallen }
  where
    owned : Owned (run before14 start back) 0
    owned = subst (λ (w : World). Owned w 0) (sym was_back) computed.owned

    risen : slot0 (run before14 start back) ≡ (0, 5)
    risen = ap slot0 was_back ∙ computed.risen

    fallen : slot0 (before14 (run before14 start back) (votes 2 2)) ≡ (3, 2)
    fallen = ap (λ (w : World). slot0 (before14 w (votes 2 2))) was_back ∙ computed.fallen

not_from_any_state : NotFromAnyState
not_from_any_state = record {
  is_sound = ap (λ (w : World). sound (restored_as w).node) is_halfway ∙ computed.restored_sound;
  owns = owns;
  fallen = fallen;
  refuted = refutes after restored [] 3 3 owned owns fallen;
}
  where
    owned : Owned restored 0
    owned = subst (λ (w : World). Owned (restored_as w) 0) (sym is_halfway) computed.restored_owned

    owns : slot0 restored ≡ (3, 5)
    owns = ap (λ (w : World). slot0 (restored_as w)) is_halfway ∙ computed.restored_owns

    fallen : slot0 (after restored (votes 2 2)) ≡ (3, 2)
    fallen = ap (λ (w : World). slot0 (after (restored_as w) (votes 2 2))) is_halfway ∙ computed.restored_falls

pub examples : Examples
examples = record { twice = twice; nothing = nothing; slid_back = slid_back; not_from_any_state = not_from_any_state }
