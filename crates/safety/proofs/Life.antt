-- Demand 3 for the life of one node: what it looks at in the node's state, the laws that each deed keeps there, and what
-- follows for the whole history. Steps.antt shows that the node's calls keep these laws.
use mathlib.Core.Path.{◌≡◌, refl, sym, ◌∙◌, subst}
use mathlib.Core.Logic.{◌⊎◌, inl, inr, ⊎_elim}
use mathlib.Core.Bool.{Bool, true, false, cond, true≢false}
use mathlib.Core.List.{List, [], ◌∷◌, ◌++◌}
use Prim.Native.Nat.{ℕ, ◌≤◌, ◌<◌}
use native.Mathlib.Nat.{max-eq_left, le-max_left, le-max_right, le_trans}
use native.Mathlib.Omega.{arith}
use lib.Dec.{eqb}
use borrow.Author.Tests.{eqb-true, ne_eqb}
use Rattle.safety.specs.Deeds.{Deed, granted, counted, won, opened, announced, other, Did, grant_of, grants, Has, NoneTwice, greatest, Counted, Won, is_opening, listed_after, listed_master, voting_set}
use Rattle.tables.specs.Checks.{all_of}
use Rattle.tables.specs.Majorities.{Majority}
use Rattle.state.specs.Node.{owns}

-- ---- what is looked at in a node's state

pub data Poll : Type 0 where
  closed : Poll
  running : (epoch : ℕ) (set heard : ℕ → Bool) → Poll

pub record View : Type 0 where
  pub last_vote : ℕ
  pub poll : Poll
  -- the other nodes that it lists as masters
  pub masters : ℕ → Bool

-- ---- the laws, one for each kind of deed: the view before it is s, the view after it s'

abbrev pub Same : (ℕ → Bool) → (ℕ → Bool) → Type 0
Same p q = (k : ℕ) → q k ≡ p k

-- the poll is left as it is, or closed
abbrev pub Kept : Poll → Poll → Type 0
Kept p q = (q ≡ p) ⊎ (q ≡ closed)

-- an epoch above the last vote is granted, and is the last vote from then on
pub record Grants (e : ℕ) (s s' : View) : Type 0 where
  pub newer : s.last_vote < e
  pub vote : s'.last_vote ≡ e
  pub poll : Kept s.poll s'.poll
  pub masters : Same s.masters s'.masters

-- the voter u is in the set of the poll of epoch e, and is heard besides those heard before
pub record Hears (u e : ℕ) (p : Poll) (set heard : ℕ → Bool) : Type 0 where
  pub before : ℕ → Bool
  pub runs : p ≡ running e set before
  pub voter : set u ≡ true
  pub more : (k : ℕ) → heard k ≡ true → (k ≡ u) ⊎ (before k ≡ true)

-- the ack of u is heard, and the poll goes on
pub record Counts (u e : ℕ) (s s' : View) : Type 0 where
  pub set : ℕ → Bool
  pub heard : ℕ → Bool
  pub hears : Hears u e s.poll set heard
  pub poll : s'.poll ≡ running e set heard
  pub vote : s'.last_vote ≡ s.last_vote
  pub masters : Same s.masters s'.masters

-- the ack of u is heard, and those heard are more than half of the set; n bounds the numbers of the nodes
pub record Wins (n u e : ℕ) (s s' : View) : Type 0 where
  pub set : ℕ → Bool
  pub heard : ℕ → Bool
  pub hears : Hears u e s.poll set heard
  pub most : Majority n heard set
  pub poll : s'.poll ≡ closed
  pub vote : s'.last_vote ≡ s.last_vote
  pub masters : Same s.masters s'.masters

-- a poll of the masters that are listed and own a slot of the table, with none heard, replaces any other
pub record Opens (slots : List ℕ) (s s' : View) : Type 0 where
  pub epoch : ℕ
  pub set : ℕ → Bool
  pub heard : ℕ → Bool
  pub poll : s'.poll ≡ running epoch set heard
  pub voters : (k : ℕ) → set k ≡ all_of (s.masters k ∷ owns slots k ∷ [])
  pub none : (k : ℕ) → heard k ≡ false
  pub vote : s'.last_vote ≡ s.last_vote
  pub masters : Same s.masters s'.masters

-- a heartbeat of u, another node than a, lists u as a master or not, and nobody else
pub record Lists (a u : ℕ) (b : Bool) (s s' : View) : Type 0 where
  pub another : u ≡ a → ⊥
  pub poll : Kept s.poll s'.poll
  pub vote : s'.last_vote ≡ s.last_vote
  pub masters : (k : ℕ) → s'.masters k ≡ cond (eqb u k) b (s.masters k)

-- nothing of this changes, unless the poll is closed
pub record Rests (s s' : View) : Type 0 where
  pub poll : Kept s.poll s'.poll
  pub vote : s'.last_vote ≡ s.last_vote
  pub masters : Same s.masters s'.masters

-- node a goes from s to s' by the deed
abbrev pub Moves : ℕ → ℕ → View → Deed → View → Type 0
Moves n a s (granted e c) s' = Grants e s s'
Moves n a s (counted u e) s' = Counts u e s s'
Moves n a s (won u e) s' = Wins n u e s s'
Moves n a s (opened slots) s' = Opens slots s s'
Moves n a s (announced u b) s' = Lists a u b s s'
Moves n a s other s' = Rests s s'

-- a node starts with no vote, no poll and the masters of the roster
pub record Starts (roster : ℕ → Bool) (a : ℕ) (s : View) : Type 0 where
  pub vote : s.last_vote ≡ 0
  pub poll : s.poll ≡ closed
  pub masters : (k : ℕ) → s.masters k ≡ cond (eqb k a) false (roster k)

-- ---- the epochs that were granted

greatest_le : (e : ℕ) (xs : List ℕ) → Has e xs → e ≤ greatest xs
greatest_le e [] h = absurd h
greatest_le e (x ∷ xs) (inl p) = rw (← p) (le-max_left x (greatest xs))
greatest_le e (x ∷ xs) (inr h) = le_trans (greatest_le e xs h) (le-max_right x (greatest xs))

has_append : (e : ℕ) (xs ys : List ℕ) → Has e ys → Has e (xs ++ ys)
has_append e [] ys m = m
has_append e (x ∷ xs) ys m = inr (has_append e xs ys m)

did_has : (e c : ℕ) (h : List Deed) → Did (granted e c) h → Has e (grants h)
did_has e c [] d = absurd d
did_has e c (x ∷ h) (inl p) = rw p (inl refl)
did_has e c (x ∷ h) (inr d) = has_append e (grant_of x) (grants h) (did_has e c h d)

none_twice_after : (xs ys : List ℕ) → NoneTwice (xs ++ ys) → NoneTwice ys
none_twice_after [] ys n = n
none_twice_after (x ∷ xs) ys n = none_twice_after xs ys n.1

-- an epoch that a node grants no more than once goes to one candidate
pub one_candidate : (e a b : ℕ) (h : List Deed) → NoneTwice (grants h) → Did (granted e a) h → Did (granted e b) h → a ≡ b
one_candidate e a b [] n p q = absurd p
one_candidate e a b (x ∷ h) n (inl p) (inl q) = cc
one_candidate e a b (x ∷ h) n (inl p) (inr q) = absurd ((rw p at n).0 (did_has e b h q))
one_candidate e a b (x ∷ h) n (inr p) (inl q) = absurd ((rw q at n).0 (did_has e a h p))
one_candidate e a b (x ∷ h) n (inr p) (inr q) = one_candidate e a b h (none_twice_after (grant_of x) (grants h) n) p q

-- ---- a node's life

module _ (n : ℕ) (roster : ℕ → Bool) (a : ℕ) where
  -- from a start, by moves, to this view, with this history
  pub data Past : View → List Deed → Type 0 where
    start : {s : View} → Starts roster a s → Past s []
    onward : {s s' : View} {h : List Deed} {d : Deed} → Past s h → Moves n a s d s' → Past s' (d ∷ h)

  -- the poll that runs has the set of the last opening, and each that it has heard is in the set and was counted
  abbrev pub PollOk : List Deed → Poll → Type 0
  PollOk h closed = Unit {0}
  PollOk h (running e set heard) = ((k : ℕ) → set k ≡ voting_set roster a h k) × ((k : ℕ) → heard k ≡ true → (set k ≡ true) × Counted k e h)

  -- what holds after every history
  pub record Inv (h : List Deed) (s : View) : Type 0 where
    pub once : NoneTwice (grants h)
    pub vote : s.last_vote ≡ greatest (grants h)
    pub poll : PollOk h s.poll
    pub masters : (k : ℕ) → s.masters k ≡ cond (eqb k a) false (listed_master roster h k)

  -- what a win of epoch e with `earlier` before it shows
  pub record Win (e : ℕ) (earlier h : List Deed) : Type 0 where
    pub set : ℕ → Bool
    pub heard : ℕ → Bool
    pub voters_are : (k : ℕ) → set k ≡ voting_set roster a earlier k
    pub heard_are : (k : ℕ) → heard k ≡ true → (set k ≡ true) × Counted k e h
    pub most : Majority n heard set

  counted_still : (k e : ℕ) (d : Deed) (h : List Deed) → Counted k e h → Counted k e (d ∷ h)
  counted_still k e d h (inl c) = inl (inr c)
  counted_still k e d h (inr c) = inr (inr c)

  -- a deed that opens nothing leaves the set of the last opening
  set_still : (d : Deed) (h : List Deed) (k : ℕ) → is_opening d ≡ false → voting_set roster a h k ≡ voting_set roster a (d ∷ h) k
  set_still (granted e c) h k o = refl
  set_still (counted v e) h k o = refl
  set_still (won v e) h k o = refl
  set_still (opened slots) h k o = absurd (true≢false o)
  set_still (announced u b) h k o = refl
  set_still other h k o = refl

  -- and so leaves a poll right
  poll_still : (d : Deed) (h : List Deed) (p : Poll) → is_opening d ≡ false → PollOk h p → PollOk (d ∷ h) p
  poll_still d h closed o k = tt
  poll_still d h (running e set heard) o ok = (
    λ k. ok.0 k ∙ set_still d h k o,
    λ k t. ((ok.1 k t).0, counted_still k e d h (ok.1 k t).1),
  )

  poll_kept : (d : Deed) (h : List Deed) (p q : Poll) → is_opening d ≡ false → PollOk h p → Kept p q → PollOk (d ∷ h) q
  poll_kept d h p q o ok (inl e) = rw e (poll_still d h p o ok)
  poll_kept d h p q o ok (inr e) = rw e tt

  -- one voter more is heard by an ack that is counted
  heard_ok : (h : List Deed) (d : Deed) (u e : ℕ) (p : Poll) (set heard : ℕ → Bool) → Counted u e (d ∷ h) → PollOk h p
      → Hears u e p set heard → ((k : ℕ) → set k ≡ voting_set roster a h k) × ((k : ℕ) → heard k ≡ true → (set k ≡ true) × Counted k e (d ∷ h))
  heard_ok h d u e p set heard c ok hs =
      let was : PollOk h (running e set hs.before) = subst (PollOk h) hs.runs ok in (
        was.0,
        λ k t. ⊎_elim
            (λ (q : k ≡ u). (rw q hs.voter, subst (λ (v : ℕ). Counted v e (d ∷ h)) (sym q) c))
            (λ (q : hs.before k ≡ true). ((was.1 k q).0, counted_still k e d h (was.1 k q).1))
            (hs.more k t),
      )

  -- the masters are as they were, and the deed lists none
  masters_still : (d : Deed) (h : List Deed) (s s' : View) → ((k : ℕ) (b : Bool) → listed_after d k b ≡ b) → Same s.masters s'.masters
      → ((k : ℕ) → s.masters k ≡ cond (eqb k a) false (listed_master roster h k)) → (k : ℕ) → s'.masters k ≡ cond (eqb k a) false (listed_master roster (d ∷ h) k)
  masters_still d h s s' l same ms k = same k ∙ ms k ∙ rw (l k (listed_master roster h k))

  -- a heartbeat lists one node anew
  lists_another : (u k : ℕ) (b x y : Bool) → (u ≡ a → ⊥) → y ≡ cond (eqb k a) false (x) → cond (eqb u k) b y ≡ cond (eqb k a) false (cond (eqb u k) b x)
  lists_another u k b x y ne p = go (eqb u k) (eqb-true u k)
    where
      go : (t : Bool) → (t ≡ true → u ≡ k) → cond t b y ≡ cond (eqb k a) false (cond t b x)
      go true f = let z : eqb k a ≡ false = ne_eqb k a (λ q. ne (f refl ∙ q)) in rw z
      go false f = p

  -- the opening node is none of the masters, so it is not in the set either
  opener_out : (me master listed owner : Bool) → master ≡ cond me false listed → all_of (master ∷ owner ∷ []) ≡ cond me false (all_of (listed ∷ owner ∷ []))
  opener_out true master listed owner p = rw p
  opener_out false master listed owner p = rw p

  -- each deed keeps it
  pub step : (d : Deed) (h : List Deed) (s s' : View) → Inv h s → Moves n a s d s' → Inv (d ∷ h) s'
  step (granted e c) h s s' i m = record {
    once = (λ x. absurd (omega (arith, greatest_le e (grants h) x, i.vote, m.newer)), i.once);
    vote = m.vote ∙ sym (max-eq_left (omega (arith, i.vote, m.newer)));
    poll = poll_kept (granted e c) h s.poll s'.poll refl i.poll m.poll;
    masters = masters_still (granted e c) h s s' (λ k b. refl) m.masters i.masters;
  }
  step (counted u e) h s s' i m = record {
    once = i.once;
    vote = m.vote ∙ i.vote;
    poll = rw m.poll (heard_ok h (counted u e) u e s.poll m.set m.heard (inl (inl refl)) i.poll m.hears);
    masters = masters_still (counted u e) h s s' (λ k b. refl) m.masters i.masters;
  }
  step (won u e) h s s' i m = record {
    once = i.once;
    vote = m.vote ∙ i.vote;
    poll = rw m.poll tt;
    masters = masters_still (won u e) h s s' (λ k b. refl) m.masters i.masters;
  }
  step (opened slots) h s s' i m = record {
    once = i.once;
    vote = m.vote ∙ i.vote;
    poll = rw m.poll (λ k. m.voters k ∙ opener_out (eqb k a) _ _ (owns slots k) (i.masters k), λ k t. absurd (true≢false (sym t ∙ m.none k)));
    masters = masters_still (opened slots) h s s' (λ k b. refl) m.masters i.masters;
  }
  step (announced u b) h s s' i m = record {
    once = i.once;
    vote = m.vote ∙ i.vote;
    poll = poll_kept (announced u b) h s.poll s'.poll refl i.poll m.poll;
    masters = λ k. m.masters k ∙ lists_another u k b (listed_master roster h k) (s.masters k) m.another (i.masters k);
  }
  step other h s s' i m = record {
    once = i.once;
    vote = m.vote ∙ i.vote;
    poll = poll_kept other h s.poll s'.poll refl i.poll m.poll;
    masters = masters_still other h s s' (λ k b. refl) m.masters i.masters;
  }

  -- so it holds of every past
  pub inv : {s : View} {h : List Deed} → Past s h → Inv h s
  inv {s} (start f) = record { once = tt; vote = f.vote; poll = rw f.poll tt; masters = f.masters }
  inv (onward {s = s} {s' = s'} {h = h} {d = d} p m) = step d h s s' (inv p) m

  -- the last vote never falls
  pub vote_rises : (d : Deed) (s s' : View) → Moves n a s d s' → s.last_vote ≤ s'.last_vote
  vote_rises (granted e c) s s' m = omega (arith, m.newer, m.vote)
  vote_rises (counted u e) s s' m = omega (arith, m.vote)
  vote_rises (won u e) s s' m = omega (arith, m.vote)
  vote_rises (opened slots) s s' m = omega (arith, m.vote)
  vote_rises (announced u b) s s' m = omega (arith, m.vote)
  vote_rises other s s' m = omega (arith, m.vote)

  -- a win stays one, whatever is done later
  win_still : (e : ℕ) (earlier h : List Deed) (d : Deed) → Win e earlier h → Win e earlier (d ∷ h)
  win_still e earlier h d w = record {
    set = w.set;
    heard = w.heard;
    voters_are = w.voters_are;
    heard_are = λ k t. ((w.heard_are k t).0, counted_still k e d h (w.heard_are k t).1);
    most = w.most;
  }

  win_now : (e u : ℕ) (h : List Deed) (s s' : View) → Inv h s → Wins n u e s s' → Win e h (won u e ∷ h)
  win_now e u h s s' i m =
      let ok = heard_ok h (won u e) u e s.poll m.set m.heard (inr (inl refl)) i.poll m.hears in
      record { set = m.set; heard = m.heard; voters_are = ok.0; heard_are = ok.1; most = m.most }

  -- every win in a past has its majority
  pub wins : {s : View} {h : List Deed} → Past s h → (e : ℕ) (earlier : List Deed) → Won e h earlier → Win e earlier h
  wins (start f) e earlier w = absurd w
  wins (onward {s = s} {s' = s'} {h = h} {d = d} p m) e earlier (inl w) =
      rw (w.1, w.2) (win_now e w.0 h s s' (inv p) (subst (λ (x : Deed). Moves n a s x s') w.1 m))
  wins (onward {s = s} {s' = s'} {h = h} {d = d} p m) e earlier (inr w) = win_still e earlier h d (wins p e earlier w)
