-- What one reply does to a lookup and to the map.
use Prim.Native.Nat.{ℕ, ◌≤◌, ◌<◌}
use mathlib.Core.Path.{◌≡◌, refl, sym, ap, ◌∙◌}
use mathlib.Core.Logic.{◌⊎◌, inl, inr}
use mathlib.Core.Bool.{Bool}
use mathlib.Core.List.{List}
use lib.ListN.{length, get_or, length-set}
use lib.Seq.{get_or-set_other}
use native.Mathlib.Omega.{arith}
use Rattle.slots.specs.Key.{key_slot}
use Rattle.state.specs.declared.Node.{Node}
use Rattle.routing.specs.Replies.{Reply, refused, down, serve, ask, moved, known_epoch, routed}
use Rattle.routing.proofs.Replies.{redirections}
use Rattle.lookups.specs.Keys.{key_bytes, slot_of}
use Rattle.lookups.specs.Lookups.{at}
use Rattle.lookups.specs.declared.Question.{Question}
use Rattle.lookups.specs.declared.End.{End}
use Rattle.lookups.specs.declared.End.TheVariants.{Served, Bad}
use Rattle.lookups.specs.declared.Stage.{Stage}
use Rattle.lookups.specs.declared.Stage.TheVariants.{Asking, Ended}
use Rattle.lookups.specs.declared.Lookup.{Lookup}
use Rattle.std.specs.Prelude.{Option, None, Some}
use Rattle.cache.specs.declared.Entry.{Entry}
use Rattle.lookups.specs.declared.Turn.{Turn}
use Rattle.cache.specs.Cache.{Map, entry_at, held_epoch, wrong_length}
use Rattle.gateway.specs.Gateway.{turn, turn_of, learn, taken, asked}
use Rattle.isolation.specs.Replies.{Follows, OneReply, NodesReply}
use Rattle.gateway.proofs.Turns.{Names, Why, Comes, ended, sent, moves, turn_comes, why_ended}

-- ---- the map

pub learn_owners : (map : Map) (s : ℕ) (w : Option Entry) → length (learn map s w).owners ≡ length map.owners
learn_owners map s None = refl
learn_owners map s (Some entry) = simp length-set

pub learn_epochs : (map : Map) (s : ℕ) (w : Option Entry) → length (learn map s w).epochs ≡ length map.epochs
learn_epochs map s None = refl
learn_epochs map s (Some entry) = simp length-set

pub learn_length : (map : Map) (s : ℕ) (w : Option Entry) → wrong_length (learn map s w) ≡ wrong_length map
unfolding wrong_length
learn_length map s w = rw (learn_owners map s w, learn_epochs map s w)

pub learn_others : (map : Map) (s k : ℕ) (w : Option Entry) → (k ≡ s → ⊥) → entry_at (learn map s w) k ≡ entry_at map k
learn_others map s k None d = refl
learn_others map s k (Some entry) d = λ i. record { owner = get_or-set_other map.owners s k entry.owner 0 d i; epoch = get_or-set_other map.epochs s k entry.epoch 0 d i }

-- ---- one reply

module _ (l : Lookup) (map : Map) (size : ℕ) (r : Reply) where
  abbrev Moves : Turn → Type 0
  Moves t = (learn map (slot_of l.key) t.learned ≡ map) ⊎ Follows l map size r (record { lookup = at l t.stage; map = learn map (slot_of l.key) t.learned })

  -- what is held of the key's slot
  abbrev held : ℕ
  held = held_epoch size (entry_at map (slot_of l.key))

  by_turn : (q : Question) → l.stage ≡ Asking q → {t : Turn} → Comes size (slot_of l.key) held q r t → Moves t
  by_turn q e (ended end why) = inl refl
  by_turn q e (sent peer h) = inl refl
  by_turn q e (moves owner epoch m n h o) = inr (record { question = q; was = e; owner = owner; epoch = epoch; is_moved_lem = m; in_roster = n; not_older = o; owners = refl; epochs = refl; next = refl })

  by_stage : (stage : Stage) → l.stage ≡ stage → Moves (turn (wrong_length map) size (slot_of l.key) held stage r)
  unfolding turn
  by_stage (Ended end) e = inl refl
  by_stage (Asking q) e = by_turn q e (turn_comes size (slot_of l.key) held q (wrong_length map) r)

  pub one_reply : OneReply l map size r
  unfolding taken
  one_reply = record {
    household = refl;
    key = refl;
    others = λ k d. learn_others map (slot_of l.key) k (turn_of l map size r).learned d;
    owners = learn_owners map (slot_of l.key) (turn_of l map size r).learned;
    epochs = learn_epochs map (slot_of l.key) (turn_of l map size r).learned;
    moves = by_stage l.stage refl;
  }

-- ---- the reply of a node

-- of a node whose roster is no larger, by routing's promise
names : (n : Node) (slots key : List ℕ) (size : ℕ) (present asking : Bool) → n.size ≤ size → (r : Reply) → routed n slots key present asking ≡ r → Names size (key_slot key) r
names n slots key size p a h (refused k) e = tt
names n slots key size p a h down e = tt
names n slots key size p a h serve e = tt
names n slots key size p a h (ask s peer) e = let f = (redirections n slots key p a).ask_names s peer e in (f.key's, omega arith)
names n slots key size p a h (moved s owner epoch) e = let f = (redirections n slots key p a).moved_names s owner epoch e in (f.key's, omega arith)

pub nodes_reply : (l : Lookup) (q : Question) (map : Map) (size : ℕ) (n : Node) (slots : List ℕ) (present : Bool) → NodesReply l q map size n slots present
unfolding asked taken
nodes_reply l q map size n slots present = record {
  never_bad = λ h b. why Bad b (names n slots (key_bytes l.key) size present q.asking h r refl);
  served = λ k m b. why (Served k) b ∙ sym m;
  not_backwards = λ h. back h (one_reply (at l (Asking q)) map size r).moves;
}
  where
    s : ℕ
    s = slot_of l.key

    held : ℕ
    held = held_epoch size (entry_at map s)

    r : Reply
    r = routed n slots (key_bytes l.key) present q.asking

    why : (end : End) → (turn (wrong_length map) size s held (Asking q) r).stage ≡ Ended end → Why size s held q r end
    why = why_ended size s held q r (turn_comes size s held q (wrong_length map) r)

    back : known_epoch n (get_or slots s 0) < held → ((taken (at l (Asking q)) map size r).map ≡ map) ⊎ Follows (at l (Asking q)) map size r (taken (at l (Asking q)) map size r) → (taken (at l (Asking q)) map size r).map ≡ map
    back h (inl e) = e
    back h (inr f) =
        let m = (redirections n slots (key_bytes l.key) present q.asking).moved_names s f.owner f.epoch f.is_moved_lem in
        let e : f.epoch ≡ known_epoch n (get_or slots s 0) = m.owner's_epoch ∙ ap (known_epoch n) m.owner's in
        absurd (omega (arith, f.not_older))
