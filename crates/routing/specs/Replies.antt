-- Where a key goes (01, "Redirections", with the fuller MOVED of 02, [5]): the replies in 01's words, which is given when, and what
-- a reply names.
use Rattle.std.specs.Prelude.{ℕ, ◌<◌, ◌≡◌, Bool, true, false, cond, not, List, [], ◌∷◌, length, eqb, None, Option, Some}
use Rattle.tables.specs.Sizes.{slot_count}
use Rattle.tables.specs.Checks.{checked, all_of, any_of}
use Rattle.answers.specs.Answers.{number}
use Rattle.answers.specs.declared.Answer.{Answer}
use Rattle.slots.specs.Key.{key_slot}
use Rattle.state.specs.Node.{listed, record_at}
use Rattle.state.specs.declared.Node.{Node}
use Rattle.state.specs.declared.Move.TheVariants.{Migrating, Importing}
use Rattle.soundness.specs.Sound.{sound}
use Rattle.entry.specs.Entry.{entry_checks}
use Rattle.marks.specs.Marks.{marking_at, owner_at, is_own}
use Rattle.routing.specs.declared.Redirect.{Redirect}
use Rattle.state.specs.declared.Move.{Move}
use Rattle.routing.specs.declared.Redirect.TheVariants.{WrongLength, Unsound, Down, Serve, Ask, Moved}

-- ---- the replies

-- a refusal with its number, or one of the four words with its values: ASK(slot, peer),
-- MOVED(slot, owner, the owner's known configEpoch)
pub data Reply : Type 0 where
  refused : ℕ → Reply
  down : Reply
  serve : Reply
  ask : ℕ → ℕ → Reply
  moved : ℕ → ℕ → ℕ → Reply

-- an answer that a call may be refused with: 1 or 7
abbrev pub is_entry : Answer → Bool
is_entry a = any_of (eqb (number a) 1 ∷ eqb (number a) 7 ∷ [])

-- what each case of the code's answer says
abbrev pub reply : Redirect → Reply
reply WrongLength = refused 1
reply Unsound = refused 7
reply Down = down
reply Serve = serve
reply (Ask s peer) = ask s peer
reply (Moved s owner epoch) = moved s owner epoch

-- ---- which is given

abbrev pub is_migrating : Option Move → Bool
is_migrating None = false
is_migrating (Some (Migrating peer)) = true
is_migrating (Some (Importing peer)) = false

abbrev pub is_importing : Option Move → Bool
is_importing None = false
is_importing (Some (Migrating peer)) = false
is_importing (Some (Importing peer)) = true

-- owner is this node: marked migrating and key absent gives ASK, else serve
abbrev pub at_home : ℕ → Bool → Option Move → Reply
at_home s present None = serve
at_home s present (Some (Migrating peer)) = cond present serve (ask s peer)
at_home s present (Some (Importing peer)) = serve

-- owner is another: marked importing and asking gives serve, else MOVED
abbrev pub elsewhere : ℕ → ℕ → ℕ → Bool → Option Move → Reply
elsewhere s owner epoch asking marking = cond (all_of (is_importing marking ∷ asking ∷ [])) serve (moved s owner epoch)

-- a node's known configEpoch
abbrev pub known_epoch : Node → ℕ → ℕ
known_epoch n k = (record_at n k).config

-- a slot that has this owner, first of all unowned
abbrev pub redirected : Node → List ℕ → ℕ → Bool → Bool → Reply
redirected n slots s present asking =
    cond (not (listed n (owner_at slots s))) down
    (cond (is_own n slots s) (at_home s present (marking_at n s)) (elsewhere s (owner_at slots s) (known_epoch n (owner_at slots s)) asking (marking_at n s)))

-- refusals 1, then 7; then by the key's slot
unfoldable pub routed : Node → List ℕ → List ℕ → Bool → Bool → Reply
routed n slots key present asking =
    checked (λ a. refused (number a)) (entry_checks (eqb (length slots) slot_count) n) (redirected n slots (key_slot key) present asking)

-- ---- which is given exactly when

abbrev pub is_refused : Reply → Bool
is_refused (refused k) = true
is_refused down = false
is_refused serve = false
is_refused (ask s p) = false
is_refused (moved s o e) = false

abbrev pub is_down : Reply → Bool
is_down (refused k) = false
is_down down = true
is_down serve = false
is_down (ask s p) = false
is_down (moved s o e) = false

abbrev pub is_serve : Reply → Bool
is_serve (refused k) = false
is_serve down = false
is_serve serve = true
is_serve (ask s p) = false
is_serve (moved s o e) = false

abbrev pub is_ask : Reply → Bool
is_ask (refused k) = false
is_ask down = false
is_ask serve = false
is_ask (ask s p) = true
is_ask (moved s o e) = false

abbrev pub is_moved : Reply → Bool
is_moved (refused k) = false
is_moved down = false
is_moved serve = false
is_moved (ask s p) = false
is_moved (moved s o e) = true

-- the call is not refused
abbrev pub is_taken : Node → List ℕ → Bool
is_taken n slots = all_of (eqb (length slots) slot_count ∷ sound n ∷ [])

-- by: the call is taken, the slot is owned, this node owns it, the key is present, ASKING came first, the slot's mark
pub record Exactly (taken owned own present asking : Bool) (marking : Option Move) (r : Reply) : Type 0 where
  -- refusals 1 and 7
  pub refused : is_refused r ≡ not taken
  -- unowned
  pub down : is_down r ≡ all_of (taken ∷ not owned ∷ [])
  -- owner is this node, marked migrating and key absent
  pub ask : is_ask r ≡ all_of (taken ∷ owned ∷ own ∷ is_migrating marking ∷ not present ∷ [])
  -- owner is another, and not both marked importing and asking
  pub moved : is_moved r ≡ all_of (taken ∷ owned ∷ not own ∷ not (all_of (is_importing marking ∷ asking ∷ [])) ∷ [])
  -- else
  pub serve : is_serve r ≡ all_of (taken ∷ owned ∷ cond own (any_of (not (is_migrating marking) ∷ present ∷ [])) (all_of (is_importing marking ∷ asking ∷ [])) ∷ [])

-- ---- what a reply names

-- MOVED: the key's slot and its owner by the table, another node of the roster, with the configEpoch known of it
pub record MovedNames (n : Node) (slots key : List ℕ) (s owner epoch : ℕ) : Type 0 where
  pub key's : s ≡ key_slot key
  pub owner's : owner ≡ owner_at slots s
  pub owner's_epoch : epoch ≡ known_epoch n owner
  pub in_roster : owner < n.size
  pub another : owner ≡ n.me → ⊥

-- ASK: the key's slot, which is this node's, and the peer that it is marked migrating to, another node of the roster
pub record AskNames (n : Node) (slots key : List ℕ) (s peer : ℕ) : Type 0 where
  pub key's : s ≡ key_slot key
  pub own : owner_at slots s ≡ n.me
  pub mark's : marking_at n s ≡ Some (Migrating peer)
  pub in_roster : peer < n.size
  pub another : peer ≡ n.me → ⊥

-- ---- what a caller relies on, at every call

pub record Redirections (n : Node) (slots key : List ℕ) (present asking : Bool) : Type 0 where
  -- which reply is given exactly when
  pub exactly : Exactly (is_taken n slots) (listed n (owner_at slots (key_slot key))) (is_own n slots (key_slot key)) present asking
      (marking_at n (key_slot key)) (routed n slots key present asking)
  -- what every MOVED and every ASK names
  pub moved_names : (s owner epoch : ℕ) → routed n slots key present asking ≡ moved s owner epoch → MovedNames n slots key s owner epoch
  pub ask_names : (s peer : ℕ) → routed n slots key present asking ≡ ask s peer → AskNames n slots key s peer

-- a reply in 01's words fixes the case of the code's answer
abbrev pub ReplySettles : Redirect → Redirect → Type 0
ReplySettles a b = reply a ≡ reply b → a ≡ b
