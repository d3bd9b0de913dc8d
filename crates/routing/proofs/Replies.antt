-- What a caller learns from a redirection: which case it is, which is given exactly when, and what MOVED and ASK name.
use Rattle.std.specs.Prelude.{Err, None, Ok, Option, Some}
use mathlib.Core.Path.{◌≡◌, refl, sym, subst, ap, ◌∙◌}
use mathlib.Core.Bool.{Bool, true, false, cond, not}
use mathlib.Core.List.{List, [], ◌∷◌}
use Prim.Native.Nat.{ℕ, ◌<◌}
use lib.ListN.{length}
use lib.Dec.{eqb, ltb}
use borrow.Author.Tests.{ltb-true, eqb-true, eqb-false, not-true, not-false}
use Rattle.tables.specs.Sizes.{slot_count}
use Rattle.tables.specs.Checks.{checked, all_of}
use Rattle.tables.proofs.Checks.{part}
use Rattle.answers.specs.Answers.{number}
use Rattle.answers.specs.declared.Answer.{Answer}
use Rattle.answers.specs.declared.Answer.TheVariants as answer
use Rattle.answers.proofs.Checks.{on_check, by_check, unrefused, past}
use Rattle.slots.specs.Key.{key_slot}
use Rattle.slots.proofs.Slots.{key_slot_below}
use Rattle.state.specs.Node.{listed, peer_of}
use Rattle.state.specs.declared.Node.{Node}
use Rattle.state.specs.declared.Move.{Move}
use Rattle.state.specs.declared.Move.TheVariants.{Migrating, Importing}
use Rattle.soundness.specs.Sound.{sound, mark_sound}
use Rattle.entry.specs.Entry.{entry_checks}
use Rattle.routing.specs.declared.Redirect.{Redirect}
use Rattle.routing.specs.declared.Redirect.TheVariants.{WrongLength, Unsound, Down, Serve, Ask, Moved}
use Rattle.marks.specs.Marks.{marks_of, marking_at, owner_at, is_own}
use Rattle.routing.specs.Replies.{Reply, refused, down, serve, ask, moved, reply, at_home, elsewhere, known_epoch, redirected, routed, is_taken, Exactly, MovedNames, AskNames, Redirections, ReplySettles}
use Rattle.marks.proofs.Lists.{found_holds}
use Rattle.answers.specs.Refusing.{Check, cleared}
use Rattle.marks.proofs.Kept.{any, all_sound}

-- ---- a reply tells the case and its values

abbrev case : Reply → Redirect
case (refused k) = cond (eqb k 1) WrongLength Unsound
case down = Down
case serve = Serve
case (ask s p) = Ask s p
case (moved s o e) = Moved s o e

case_of : (r : Redirect) → case (reply r) ≡ r
case_of WrongLength = refl
case_of Unsound = refl
case_of Down = refl
case_of Serve = refl
case_of (Ask s p) = refl
case_of (Moved s o e) = refl

pub reply_settles : (a b : Redirect) → ReplySettles a b
reply_settles a b e = sym (case_of a) ∙ ap case e ∙ case_of b

-- ---- which is given exactly when

-- no check refused
abbrev passes : Check → Bool
passes (Ok tt) = true
passes (Err a) = false

taken : (l : Bool) (n : Node) → passes (checked Err (entry_checks l n) cleared) ≡ all_of (l ∷ sound n ∷ [])
taken false n = refl
taken true n = by (sound n)
  where
    by : (t : Bool) → passes (cond (not t) (Err answer.Unsound) cleared) ≡ t
    by true = refl
    by false = refl

-- a reply by what the checks came to
abbrev sent : Reply → Check → Reply
sent = on_check (λ a. refused (number a))

by_cases : (c : Check) (owned own present asking : Bool) (marking : Option Move) (s o e : ℕ)
    → Exactly (passes c) owned own present asking marking (sent (cond (not owned) down (cond own (at_home s present marking) (elsewhere s o e asking marking))) c)
by_cases (Err r) owned own p a m s o e = record { refused = refl; down = refl; ask = refl; moved = refl; serve = refl }
by_cases (Ok tt) false own p a m s o e = record { refused = refl; down = refl; ask = refl; moved = refl; serve = refl }
by_cases (Ok tt) true true p a None s o e = record { refused = refl; down = refl; ask = refl; moved = refl; serve = refl }
by_cases (Ok tt) true true true a (Some (Migrating q)) s o e = record { refused = refl; down = refl; ask = refl; moved = refl; serve = refl }
by_cases (Ok tt) true true false a (Some (Migrating q)) s o e = record { refused = refl; down = refl; ask = refl; moved = refl; serve = refl }
by_cases (Ok tt) true true p a (Some (Importing q)) s o e = record { refused = refl; down = refl; ask = refl; moved = refl; serve = refl }
by_cases (Ok tt) true false p a None s o e = record { refused = refl; down = refl; ask = refl; moved = refl; serve = refl }
by_cases (Ok tt) true false p a (Some (Migrating q)) s o e = record { refused = refl; down = refl; ask = refl; moved = refl; serve = refl }
by_cases (Ok tt) true false p true (Some (Importing q)) s o e = record { refused = refl; down = refl; ask = refl; moved = refl; serve = refl }
by_cases (Ok tt) true false p false (Some (Importing q)) s o e = record { refused = refl; down = refl; ask = refl; moved = refl; serve = refl }

exactly : (n : Node) (slots key : List ℕ) (present asking : Bool)
    → Exactly (is_taken n slots) (listed n (owner_at slots (key_slot key))) (is_own n slots (key_slot key)) present asking (marking_at n (key_slot key)) (routed n slots key present asking)
unfolding routed
exactly n slots key p a =
    let s = key_slot key in let o = owner_at slots s in let m = marking_at n s in let l = eqb (length slots) slot_count in
    let rows = entry_checks l n in let c = checked Err rows cleared in let rest = redirected n slots s p a in
    subst (λ (t : Bool). Exactly t (listed n o) (is_own n slots s) p a m (checked (λ b. refused (number b)) rows rest)) (taken l n)
    (subst (λ (r : Reply). Exactly (passes c) (listed n o) (is_own n slots s) p a m r) (sym (by_check (λ b. refused (number b)) rows rest)) (by_cases c (listed n o) (is_own n slots s) p a m s o (known_epoch n o)))

-- ---- a reply by what the checks came to

module _ (n : Node) (slots key : List ℕ) (present asking : Bool) where
  abbrev checks : Check
  checks = checked Err (entry_checks (eqb (length slots) slot_count) n) cleared

  told : (c : Check) → c ≡ checks → routed n slots key present asking ≡ sent (redirected n slots (key_slot key) present asking) c
  unfolding routed
  told c e = by_check (λ a. refused (number a)) (entry_checks (eqb (length slots) slot_count) n) _ ∙ ap (sent _) (sym e)

  pub told_wrong_length : (a : Answer) → a ≡ answer.WrongLength → Err a ≡ checks → refused 1 ≡ routed n slots key present asking
  told_wrong_length a w e = sym (told (Err a) e ∙ rw w)

  -- of the two checks it is the other one
  other : (l t : Bool) (a : Answer) → ¬ (a ≡ answer.WrongLength) → Err a ≡ cond (not l) (Err answer.WrongLength) (cond (not t) (Err answer.Unsound) cleared) → a ≡ answer.Unsound
  other false t a d e = absurd (d cc)
  other true false a d e = cc
  other true true a d e = cc

  pub told_unsound : (a : Answer) → ¬ (a ≡ answer.WrongLength) → Err a ≡ checks → refused 7 ≡ routed n slots key present asking
  told_unsound a d e = sym (told (Err a) e ∙ rw (other (eqb (length slots) slot_count) (sound n) a d e))

  pub told_redirected : Ok tt ≡ checks → redirected n slots (key_slot key) present asking ≡ routed n slots key present asking
  told_redirected e = sym (told (Ok tt) e)

  -- past the checks the key's slot has an entry
  pub slot_within : Ok tt ≡ checks → key_slot key < length slots
  slot_within e = rw (eqb-true (length slots) slot_count (not-false _ (unrefused 1 (entry_checks (eqb (length slots) slot_count) n) (sym e)))) (key_slot_below key)

-- ---- what MOVED and ASK name

-- a mark's peer is another node of the roster
peer_another : (n : Node) → sound n ≡ true → (s : ℕ) (m : Move) → marking_at n s ≡ Some m → (peer_of m < n.size) × (peer_of m ≡ n.me → ⊥)
peer_another n h s m e =
    found_holds (λ (x : Move). (peer_of x < n.size) × (peer_of x ≡ n.me → ⊥)) (mark_sound n.size n.me) (λ x f.
    let q = peer_of x.movement in let l = ltb x.slot slot_count ∷ ltb q n.size ∷ not (eqb q n.me) ∷ [] in
    (ltb-true q n.size (part 1 l f), eqb-false q n.me (not-true (eqb q n.me) (part 2 l f)))) s (marks_of n) m (all_sound n h) e

module _ (n : Node) (slots key : List ℕ) where
  abbrev Names : Reply → Type 0
  Names (refused k) = Unit
  Names down = Unit
  Names serve = Unit
  Names (ask s p) = AskNames n slots key s p
  Names (moved s o e) = MovedNames n slots key s o e

  abbrev s : ℕ
  s = key_slot key

  abbrev owner : ℕ
  owner = owner_at slots (key_slot key)

  homes : sound n ≡ true → owner ≡ n.me → (present : Bool) (m : Option Move) → marking_at n s ≡ m → Names (at_home s present m)
  homes h e p None q = tt
  homes h e true (Some (Migrating peer)) q = tt
  homes h e false (Some (Migrating peer)) q =
      let a = peer_another n h s (Migrating peer) q in record { key's = refl; own = e; mark's = q; in_roster = a.0; another = a.1 }
  homes h e p (Some (Importing peer)) q = tt

  aways : owner < n.size → (owner ≡ n.me → ⊥) → (asking : Bool) (m : Option Move) → Names (elsewhere s owner (known_epoch n owner) asking m)
  aways l d a None = record { key's = refl; owner's = refl; owner's_epoch = refl; in_roster = l; another = d }
  aways l d a (Some (Migrating peer)) = record { key's = refl; owner's = refl; owner's_epoch = refl; in_roster = l; another = d }
  aways l d true (Some (Importing peer)) = tt
  aways l d false (Some (Importing peer)) = record { key's = refl; owner's = refl; owner's_epoch = refl; in_roster = l; another = d }

  names : (present asking : Bool) → Names (routed n slots key present asking)
  unfolding routed
  names p a = past Names any (λ b. refused (number b)) (entry_checks (eqb (length slots) slot_count) n) (redirected n slots s p a) refl (λ b q. tt) (λ f.
      by (not-false (sound n) (f 7)) (listed n owner) refl (is_own n slots s) refl)
    where
      by : sound n ≡ true → (t : Bool) → t ≡ listed n owner → (o : Bool) → o ≡ is_own n slots s → Names (cond (not t) down (cond o (at_home s p (marking_at n s)) (elsewhere s owner (known_epoch n owner) a (marking_at n s))))
      by h false e o g = tt
      by h true e true g = homes h (eqb-true owner n.me (sym g)) p (marking_at n s) refl
      by h true e false g = aways (ltb-true owner n.size (sym e)) (eqb-false owner n.me (sym g)) a (marking_at n s)

pub redirections : (n : Node) (slots key : List ℕ) (present asking : Bool) → Redirections n slots key present asking
redirections n slots key p a = record {
  exactly = exactly n slots key p a;
  moved_names = λ t o epoch e. subst (Names n slots key) e (names n slots key p a);
  ask_names = λ t peer e. subst (Names n slots key) e (names n slots key p a);
}
