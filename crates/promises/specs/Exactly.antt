-- Demand 2 on lines: when a line is answered 10, when a slot passes by a claim or by a win, and what the answers say of it.
use Rattle.std.specs.Prelude.{◌≡◌, true, false, not, List, ℕ, ◌≤◌, ◌<◌, length, get_or, Some}
use Rattle.tables.specs.Sizes.{slot_count}
use Rattle.tables.specs.Lists.{first_at, changed_from}
use Rattle.tables.specs.Sets.{claimed}
use Rattle.answers.specs.Answers.{counts, passed, Said, said, number}
use Rattle.state.specs.Node.{record_at, role_at, listed}
use Rattle.state.specs.Changes.{arrived}
use Rattle.state.specs.declared.Node.{Node}
use Rattle.state.specs.declared.Role.{Role}
use Rattle.state.specs.declared.Role.TheVariants.{Master, Replica}
use Rattle.frames.specs.Frames.{frame_of, bitmap_of}
use Rattle.frames.specs.declared.Header.{Header}
use Rattle.frames.specs.declared.Kind.{Kind}
use Rattle.frames.specs.declared.Kind.TheVariants.{Heartbeat, Request, Ack}
use Rattle.refusals.specs.Refusals.{refusal}
use Rattle.votes.specs.Grants.{Grantable}
use Rattle.node.specs.Step.{on_frame}
use Rattle.answers.specs.Refusing.{cleared}
use Rattle.promises.specs.Claims.{stale_at}

module _ (n : Node) (slots reports line : List ℕ) where
  -- what the line is answered, with its values, and the number alone
  abbrev pub said_to : Said
  said_to = said (on_frame n slots reports line).outcome.answer

  abbrev pub answer_to : ℕ
  answer_to = number (on_frame n slots reports line).outcome.answer

  -- the line is a frame of that kind with that time and those epochs
  abbrev pub Reads : Header → Kind → Type 0
  Reads h kind = frame_of line ≡ Some (record { header = h; kind = kind })

  -- a vote request that none of 1 to 8 turns away, and whose conditions hold with clock and currentEpoch risen
  pub record GrantableLine : Type 0 where
    pub header : Header
    pub candidate : ℕ
    pub request : Reads header (Request candidate)
    pub passes : refusal n (length slots) (length reports) (frame_of line) ≡ cleared
    pub conditions : Grantable (arrived header.time header.epoch n) slots (bitmap_of line) candidate header.epoch header.config

  -- such a line is answered 10, and no other
  pub record GrantedExactly : Type 0 where
    pub if : GrantableLine → answer_to ≡ 10
    pub only_if : answer_to ≡ 10 → GrantableLine

  -- the frame claims slot s with a configEpoch strictly above the one known of its owner
  pub record Beats (config s : ℕ) : Type 0 where
    pub claims : claimed (bitmap_of line) s ≡ true
    pub above : (record_at n (get_or slots s 0)).config < config

  -- slot s, which is another's in the roster, is the sender's afterwards exactly when the frame beats its owner, and its
  -- owner's otherwise
  pub record SlotPasses (sender config s : ℕ) : Type 0 where
    pub if : Beats config s → get_or (on_frame n slots reports line).slots s 0 ≡ sender
    pub only_if : get_or (on_frame n slots reports line).slots s 0 ≡ sender → Beats config s
    pub otherwise : (Beats config s → ⊥) → get_or (on_frame n slots reports line).slots s 0 ≡ get_or slots s 0

  -- for a master's heartbeat that is not turned away
  abbrev pub SlotPassesExactly : Type 0
  SlotPassesExactly =
      (h : Header) (sender : ℕ) → Reads h (Heartbeat sender Master) → answer_to ≡ 0
      → (s : ℕ) → s < slot_count → get_or slots s 0 < n.size → (get_or slots s 0 ≡ sender → ⊥) → SlotPasses sender h.config s

  -- an entry that is no number of the roster goes to the sender exactly when the frame claims it
  pub record UnownedGoes (sender s : ℕ) : Type 0 where
    pub if : claimed (bitmap_of line) s ≡ true → get_or (on_frame n slots reports line).slots s 0 ≡ sender
    pub otherwise : claimed (bitmap_of line) s ≡ false → get_or (on_frame n slots reports line).slots s 0 ≡ get_or slots s 0

  abbrev pub UnownedGoesExactly : Type 0
  UnownedGoesExactly =
      (h : Header) (sender : ℕ) → Reads h (Heartbeat sender Master) → answer_to ≡ 0
      → (s : ℕ) → s < slot_count → n.size ≤ get_or slots s 0 → UnownedGoes sender s

  -- A heartbeat that is not turned away is answered 0, with how many entries changed from unowned, how many from another
  -- owner, and the lowest claimed slot at which the sender is stale. What an entry was is told by the table before.
  abbrev pub HeartbeatSays : Type 0
  HeartbeatSays =
      (h : Header) (sender : ℕ) (role : Role) → Reads h (Heartbeat sender role) → answer_to ≡ 0
      → let after = (on_frame n slots reports line).slots in
      said_to ≡ record {
        number = 0;
        values = counts (changed_from (λ o. not (listed n o)) slots after) (changed_from (listed n) slots after) (first_at (stale_at n (bitmap_of line) sender role h.config) slots);
      }

  -- the line is an ack that wins the election of its epoch
  pub record Winning (h : Header) : Type 0 where
    pub voter : ℕ
    pub candidate : ℕ
    pub ack : Reads h (Ack voter candidate)
    pub answer : answer_to ≡ 30

  -- the owner of slot s is this node's old master, and its known configEpoch is below that epoch
  pub record Yields (epoch s : ℕ) : Type 0 where
    pub old_master : role_at n n.me ≡ Replica (get_or slots s 0)
    pub below : (record_at n (get_or slots s 0)).config < epoch

  -- slot s, which is not this node's own, is so afterwards exactly when its owner yields it, and stays as it was otherwise
  pub record SlotWon (epoch s : ℕ) : Type 0 where
    pub if : Yields epoch s → get_or (on_frame n slots reports line).slots s 0 ≡ n.me
    pub only_if : get_or (on_frame n slots reports line).slots s 0 ≡ n.me → Yields epoch s
    pub otherwise : (Yields epoch s → ⊥) → get_or (on_frame n slots reports line).slots s 0 ≡ get_or slots s 0

  abbrev pub SlotWonExactly : Type 0
  SlotWonExactly = (h : Header) → Winning h → (s : ℕ) → s < slot_count → (get_or slots s 0 ≡ n.me → ⊥) → SlotWon h.epoch s

  -- A win is answered 30 with how many entries changed, all of them to this node.
  abbrev pub WinSays : Type 0
  WinSays =
      (h : Header) → Winning h
      → said_to ≡ record { number = 30; values = passed (changed_from (λ owner. true) slots (on_frame n slots reports line).slots) }
