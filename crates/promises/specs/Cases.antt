-- Document 01, "Node for the cases": every case that is marked with a star, keys and votes, and the requests of document 02,
-- [3] and [10], as rows of one table. The rows of votes go through the definition of the whole `frame`, from the line of 4,152
-- digits to the answer.
use Rattle.std.specs.Prelude.{ℕ, ◌+◌, ◌≡◌, List, [], ◌∷◌, ◌++◌, map, replicate}
use Rattle.tables.specs.Sizes.{report_count, unowned}
use Rattle.answers.specs.Answers.{at_slot, Said, plain, said}
use Rattle.state.specs.Changes.{with_config, with_flag, with_current, with_voted, on_record}
use Rattle.state.specs.Outcomes.{Stepped}
use Rattle.state.specs.declared.Node.{Node}
use Rattle.state.specs.declared.Flag.TheVariants.{Fail}
use Rattle.cases.specs.Cases.{cases_node}
use Rattle.slots.specs.Cases.{KeyRow, key_answered, key_rows}
use Rattle.frames.specs.Lines.{encode}
use Rattle.frames.specs.declared.Frame.{Frame}
use Rattle.frames.specs.declared.Kind.TheVariants.{Request}
use Rattle.node.specs.Step.{on_frame}

-- ---- the node for the cases

-- the voter: at currentEpoch 5 and lastVoteEpoch 1; node 0 is FAIL, at configEpoch 2
unfoldable pub voter : Node
voter = with_current 5 (with_voted 1 (on_record 0 (λ r. with_flag (Fail 0) (with_config 2 r)) cases_node))

-- node 0 owns slot 0 and, since only a master with slots counts (document 02, [3]), the voter slot 1 and the reporter, node 2,
-- slot 2
unfoldable pub slots : List ℕ
slots = 0 ∷ 1 ∷ 2 ∷ replicate 16381 unowned

-- the same but for the voter's: it owns nothing here
unfoldable pub slots_of_others : List ℕ
slots_of_others = 0 ∷ unowned ∷ 2 ∷ replicate 16381 unowned

unfoldable pub reports : List ℕ
reports = replicate report_count 0

-- ---- a vote request's line

-- bitmaps: the first bit and no other, the last bit and no other, and no bit
unfoldable pub claim_of_slot0 : List ℕ
claim_of_slot0 = 0x01 ∷ replicate 2047 0

unfoldable pub claim_of_slot16383 : List ℕ
claim_of_slot16383 = replicate 2047 0 ++ 0x80 ∷ []

unfoldable pub claim_of_nothing : List ℕ
claim_of_nothing = replicate 2048 0

pub record Asked : Type 0 where
  pub candidate : ℕ
  pub epoch : ℕ
  pub config : ℕ
  pub time : ℕ
  pub bitmap : List ℕ

abbrev pub request_of : Asked → Frame
request_of q = record { header = record { time = q.time; epoch = q.epoch; config = q.config }; kind = Request q.candidate }

unfoldable pub line_of : Asked → List ℕ
line_of q = encode (request_of q) q.bitmap

-- ---- the table

-- a request, the answer's number and values, and currentEpoch after it
pub record VoteRow : Type 0 where
  pub asked : Asked
  pub answer : Said
  pub current : ℕ

-- a key; or requests to the voter, one after the other, each lent that slot table
pub data Row : Type 0 where
  key : KeyRow → Row
  votes : List ℕ → List VoteRow → Row

abbrev pub asks : ℕ → ℕ → ℕ → ℕ → List ℕ → Asked
asks candidate epoch config time bitmap = record { candidate = candidate; epoch = epoch; config = config; time = time; bitmap = bitmap }

-- document 01's requests claim slot 0
abbrev pub ask : ℕ → ℕ → ℕ → ℕ → Asked
ask candidate epoch config time = asks candidate epoch config time claim_of_slot0

abbrev pub gives : Asked → Said → ℕ → VoteRow
gives q a e = record { asked = q; answer = a; current = e }

-- candidate 3 with configEpoch 2 at epoch 4: 12; at epoch 5: 10; the same again: 13; then candidate 4 at epoch 6 after
-- 1,999 ms: 16, currentEpoch 6; after 2,000 ms: 10
abbrev pub vote_rows : List VoteRow
vote_rows =
    gives (ask 3 4 2 1000) (plain 12) 5
    ∷ gives (ask 3 5 2 1000) (plain 10) 5
    ∷ gives (ask 3 5 2 1000) (plain 13) 5
    ∷ gives (ask 4 6 2 2999) (plain 16) 6
    ∷ gives (ask 4 6 2 3000) (plain 10) 6
    ∷ []

-- the first epoch 5 request with configEpoch 1 instead: 17, slot 0
abbrev pub outdated_rows : List VoteRow
outdated_rows = gives (ask 3 5 1 1000) (record { number = 17; values = at_slot 0 }) 5 ∷ []

-- document 02, [10]: candidate 3 at epoch 6 with an empty bitmap: 18, currentEpoch 6; then with slot 16383 alone, which nobody
-- owns: 10, since 18 uses up no epoch
abbrev pub empty_rows : List VoteRow
empty_rows =
    gives (asks 3 6 2 1000 claim_of_nothing) (plain 18) 6
    ∷ gives (asks 3 6 2 1000 claim_of_slot16383) (plain 10) 6
    ∷ []

-- document 02, [3]: the voter owns no slot. Candidate 3 at epoch 4: 11, not 12; at epoch 5: 11, not 10; at epoch 6: 11,
-- currentEpoch 6
abbrev pub empty_master_rows : List VoteRow
empty_master_rows =
    gives (ask 3 4 2 1000) (plain 11) 5
    ∷ gives (ask 3 5 2 1000) (plain 11) 5
    ∷ gives (ask 3 6 2 1000) (plain 11) 6
    ∷ []

abbrev pub rows : List Row
rows = map key key_rows ++ votes slots vote_rows ∷ votes slots outdated_rows ∷ votes slots empty_rows ∷ votes slots_of_others empty_master_rows ∷ []

-- ---- the same, by the definitions

abbrev pub vote_answered : Asked → Stepped → VoteRow
vote_answered q s = record { asked = q; answer = said s.outcome.answer; current = s.outcome.node.current }

-- each request is lent the same tables
unfoldable pub votes_answered : List ℕ → Node → List VoteRow → List VoteRow
votes_answered lent n [] = []
votes_answered lent n (r ∷ rs) =
    let s = on_frame n lent reports (line_of r.asked) in
    vote_answered r.asked s ∷ votes_answered lent s.outcome.node rs

abbrev pub row_answered : Row → Row
row_answered (key r) = key (key_answered r)
row_answered (votes lent rs) = votes lent (votes_answered lent voter rs)

-- what the definitions make of each row is the row
abbrev pub AllCases : Type 0
AllCases = map row_answered rows ≡ rows
