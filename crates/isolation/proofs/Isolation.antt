-- Why a lookup's answers depend on what it is given alone, and why two runs give it the same: every run gives these lookups what
-- it gives them without the others.
use Prim.Native.Nat.{ℕ, ◌<◌}
use mathlib.Core.Path.{◌≡◌, refl, sym, ap, subst, ◌∙◌}
use mathlib.Core.Bool.{Bool, true, false, cond}
use mathlib.Core.List.{List, [], ◌∷◌}
use lib.Seq.{get_or-set_same}
use lib.Dec.{eqb}
use borrow.Author.Tests.{eqb-true, eqb-false, eq-eqb}
use Rattle.tables.specs.Sizes.{slot_count}
use Rattle.tables.proofs.Checks.{never}
use Rattle.slots.proofs.Slots.{key_slot_below}
use Rattle.lookups.specs.Keys.{slot_of, key_bytes}
use Rattle.routing.specs.Replies.{Reply, refused, down, serve, ask, moved}
use Rattle.lookups.specs.Lookups.{at, heard}
use Rattle.lookups.specs.declared.Stage.{Stage}
use Rattle.lookups.specs.declared.Stage.TheVariants.{Asking, Ended}
use Rattle.lookups.specs.declared.Lookup.{Lookup}
use Rattle.lookups.specs.declared.Turn.{Turn}
use Rattle.std.specs.Prelude.{Option, None, Some}
use Rattle.cache.specs.declared.Entry.{Entry}
use Rattle.cache.specs.Cache.{Map, entry_at, held_epoch, wrong_length}
use Rattle.gateway.specs.Gateway.{first_stage, turn, turn_of, learn, started, taken}
use Rattle.isolation.specs.Runs.{Event, Happening, starts, hears, Progress, unstarted, reached, Gateway, becomes, leaves, step, after, answers}
use Rattle.isolation.specs.Isolation.{held_against, given, own, goes, comes_to, alone, DependsOnlyOn, Matches, Apart, events_of, SameAnswers, just, OneLookup}
use Rattle.cache.proofs.Maps.{right_length}
use Rattle.isolation.proofs.Replies.{learn_others}
use Rattle.isolation.proofs.Runs.{after_length, by_events, On, all_on, leaves_others}

-- ---- what an answer depends on

-- what is held of the slot matters at a MOVED alone
at_moved : (size s held : ℕ) (stage : Stage) (r : Reply) → turn false size s held stage r ≡ turn false size s (held_against r held) stage r
unfolding turn heard
at_moved size s held (Ended end) r = refl
at_moved size s held (Asking q) (refused n) = refl
at_moved size s held (Asking q) down = refl
at_moved size s held (Asking q) serve = refl
at_moved size s held (Asking q) (ask named peer) = refl
at_moved size s held (Asking q) (moved named owner epoch) = refl

given_alone : (size : ℕ) (map : Map) (h : Progress) (w : Happening) → wrong_length map ≡ false → becomes size map h w ≡ goes size h (given size map h w)
unfolding started taken
given_alone size map h (starts household key) e = rw e
given_alone size map unstarted (hears r) e = refl
given_alone size map (reached l) (hears r) e = rw e (ap (λ (t : Turn). reached (at l t.stage)) (at_moved size (slot_of l.key) _ l.stage r))

module _ (size : ℕ) (map : Map) (i : ℕ) (right : wrong_length map ≡ false) where
  comes : (run : List Event) → (after size map run).lookups i ≡ comes_to size (own size map i run)
  unfolding own comes_to
  comes = by_events size map i (λ run p. p ≡ comes_to size (own size map i run)) refl
      (λ e es t r. rw t (given_alone size (after size map es).map ((after size map es).lookups i) e.what (after_length size map es ∙ right) ∙ ap (λ (p : Progress). goes size p (given size (after size map es).map ((after size map es).lookups i) e.what)) r))
      (λ e es t r. rw t r)

  all_comes : (run : List Event) → answers size map i run ≡ alone size (own size map i run)
  unfolding answers own alone
  all_comes [] = refl
  all_comes (e ∷ es) = by (eqb e.lookup i) refl (comes (e ∷ es)) (all_comes es)
    where
      by : (t : Bool) → t ≡ eqb e.lookup i → (after size map (e ∷ es)).lookups i ≡ comes_to size (own size map i (e ∷ es)) → answers size map i es ≡ alone size (own size map i es)
          → cond t ((after size map (e ∷ es)).lookups i ∷ answers size map i es) (answers size map i es)
          ≡ alone size (cond t (given size (after size map es).map ((after size map es).lookups i) e.what ∷ own size map i es) (own size map i es))
      by true q a r = rw (a, r, ← q)
      by false q a r = r

pub depends_only_on : DependsOnlyOn
depends_only_on size map right i run = all_comes size map i right run

-- ---- one event, over two maps

-- what was learned of a slot stands in its entry
pub learned_here : (map : Map) (k : ℕ) (entry : Entry) → wrong_length map ≡ false → k < slot_count → entry_at (learn map k (Some entry)) k ≡ entry
learned_here map k entry right h = let l = right_length map right in
    λ i. record { owner = get_or-set_same map.owners k entry.owner 0 (rw l.0 h) i; epoch = get_or-set_same map.epochs k entry.epoch 0 (rw l.1 h) i }

module _ (a b : Map) (right_a : wrong_length a ≡ false) (right_b : wrong_length b ≡ false) where
  learn_alike : (k s : ℕ) (w : Option Entry) → k < slot_count → entry_at a s ≡ entry_at b s → entry_at (learn a k w) s ≡ entry_at (learn b k w) s
  learn_alike k s None h e = e
  learn_alike k s (Some entry) h e = by (eqb s k) refl
    where
      by : (t : Bool) → eqb s k ≡ t → entry_at (learn a k (Some entry)) s ≡ entry_at (learn b k (Some entry)) s
      by true q = rw (eqb-true s k q) (learned_here a k entry right_a h ∙ sym (learned_here b k entry right_b h))
      by false q = learn_others a k s (Some entry) (eqb-false s k q) ∙ (e ∙ sym (learn_others b k s (Some entry) (eqb-false s k q)))

  module _ (size : ℕ) (slots these : ℕ → Bool) (agree : (s : ℕ) → slots s ≡ true → entry_at a s ≡ entry_at b s) where
    -- a lookup on one of the slots has the same entry in both, and comes to the same by a reply
    turn_alike : (j : ℕ) (l : Lookup) (r : Reply) → these j ≡ true → On size slots these j (reached l) → turn_of l a size r ≡ turn_of l b size r
    turn_alike j l r t o = rw (right_a, right_b) (ap (λ (e : Entry). turn false size (slot_of l.key) (held_epoch size e) l.stage r) (agree (slot_of l.key) (o ∙ t)))

    becomes_alike : (j : ℕ) (h : Progress) (w : Happening) → these j ≡ true → Matches slots these j w → On size slots these j h → becomes size a h w ≡ becomes size b h w
    unfolding started taken
    becomes_alike j h (starts household key) t m o =
        rw (right_a, right_b) (ap (λ (e : Entry). reached (record { household = household; key = key; stage = first_stage false e.owner size key })) (agree (slot_of key) (m ∙ t)))
    becomes_alike j unstarted (hears r) t m o = refl
    becomes_alike j (reached l) (hears r) t m o = ap (λ (x : Turn). reached (at l x.stage)) (turn_alike j l r t o)

    leaves_alike : (j : ℕ) (h : Progress) (w : Happening) → these j ≡ true → On size slots these j h → (s : ℕ) → slots s ≡ true → entry_at (leaves size a h w) s ≡ entry_at (leaves size b h w) s
    unfolding taken
    leaves_alike j h (starts household key) t o s u = agree s u
    leaves_alike j unstarted (hears r) t o s u = agree s u
    leaves_alike j (reached l) (hears r) t o s u =
        ap (λ (x : Turn). entry_at (learn a (slot_of l.key) x.learned) s) (turn_alike j l r t o)
        ∙ learn_alike (slot_of l.key) s (turn_of l b size r).learned (key_slot_below (key_bytes l.key)) (agree s u)

-- ---- two gateways

module _ (size : ℕ) (slots these : ℕ → Bool) where
  -- they have the same of these lookups, and the same entries of the slots
  record Alike (g k : Gateway) : Type 0 where
    right_a : wrong_length g.map ≡ false
    right_b : wrong_length k.map ≡ false
    lookups : (j : ℕ) → these j ≡ true → g.lookups j ≡ k.lookups j
    entries : (s : ℕ) → slots s ≡ true → entry_at g.map s ≡ entry_at k.map s

  module _ (g k : Gateway) (f : Alike g k) (on : (j : ℕ) → On size slots these j (g.lookups j)) (e : Event) where
    -- an event of one of these, to both
    own_lookup : these e.lookup ≡ true → Matches slots these e.lookup e.what → (j : ℕ) → these j ≡ true → (step size g e).lookups j ≡ (step size k e).lookups j
    own_lookup t m j u = by (eqb e.lookup j) refl
      where
        by : (b : Bool) → eqb e.lookup j ≡ b → cond b (becomes size g.map (g.lookups j) e.what) (g.lookups j) ≡ cond b (becomes size k.map (k.lookups j) e.what) (k.lookups j)
        by true q =
            becomes_alike g.map k.map f.right_a f.right_b size slots these f.entries j (g.lookups j) e.what u (subst (λ (n : ℕ). Matches slots these n e.what) (eqb-true e.lookup j q) m) (on j)
            ∙ rw (f.lookups j u)
        by false q = f.lookups j u

    own_entry : these e.lookup ≡ true → (s : ℕ) → slots s ≡ true → entry_at (step size g e).map s ≡ entry_at (step size k e).map s
    own_entry t s u =
        leaves_alike g.map k.map f.right_a f.right_b size slots these f.entries e.lookup (g.lookups e.lookup) e.what t (on e.lookup) s u
        ∙ rw (f.lookups e.lookup t)

    -- an event of another, to the first alone
    other_lookup : these e.lookup ≡ false → (j : ℕ) → these j ≡ true → (step size g e).lookups j ≡ k.lookups j
    other_lookup t j u = by (eqb e.lookup j) refl
      where
        by : (b : Bool) → eqb e.lookup j ≡ b → cond b (becomes size g.map (g.lookups j) e.what) (g.lookups j) ≡ k.lookups j
        by true q = never (sym u ∙ (ap these (sym (eqb-true e.lookup j q)) ∙ t))
        by false q = f.lookups j u

    other_entry : these e.lookup ≡ false → (s : ℕ) → slots s ≡ true → entry_at (step size g e).map s ≡ entry_at k.map s
    other_entry t s u = leaves_others size slots these g.map e.lookup (g.lookups e.lookup) e.what t (on e.lookup) s u ∙ f.entries s u

  -- ---- a run, and that of these lookups alone

  module _ (a b : Map) (right_a : wrong_length a ≡ false) (right_b : wrong_length b ≡ false) (agree : (s : ℕ) → slots s ≡ true → entry_at a s ≡ entry_at b s) where
    alike : (run : List Event) → Apart slots these run → Alike (after size a run) (after size b (events_of these run))
    unfolding after events_of
    alike [] p = record { right_a = right_a; right_b = right_b; lookups = λ j t. refl; entries = agree }
    alike (e ∷ es) p = by (these e.lookup) refl (alike es p.1)
      where
        g : Gateway
        g = after size a es

        k : Gateway
        k = after size b (events_of these es)

        on : (j : ℕ) → On size slots these j (g.lookups j)
        on j = all_on size slots these a j es p.1

        by : (t : Bool) → these e.lookup ≡ t → Alike g k → Alike (step size g e) (after size b (cond t (e ∷ events_of these es) (events_of these es)))
        by true t f = record {
          right_a = after_length size a (e ∷ es) ∙ right_a;
          right_b = after_length size b (e ∷ events_of these es) ∙ right_b;
          lookups = own_lookup g k f on e t p.0;
          entries = own_entry g k f on e t;
        }
        by false t f = record {
          right_a = after_length size a (e ∷ es) ∙ right_a;
          right_b = f.right_b;
          lookups = other_lookup g k f on e t;
          entries = other_entry g k f on e t;
        }

    without : (i : ℕ) → these i ≡ true → (run : List Event) → Apart slots these run → answers size a i run ≡ answers size b i (events_of these run)
    unfolding answers events_of
    without i t [] p = refl
    without i t (e ∷ es) p = by (these e.lookup) refl (eqb e.lookup i) refl ((alike (e ∷ es) p).lookups i t) (without i t es p.1)
      where
        by : (u : Bool) → these e.lookup ≡ u → (v : Bool) → eqb e.lookup i ≡ v
            → (after size a (e ∷ es)).lookups i ≡ (after size b (events_of these (e ∷ es))).lookups i
            → answers size a i es ≡ answers size b i (events_of these es)
            → cond v ((after size a (e ∷ es)).lookups i ∷ answers size a i es) (answers size a i es)
            ≡ answers size b i (cond u (e ∷ events_of these es) (events_of these es))
        by true q true w l r = rw (w, l, r, q)
        by true q false w l r = rw w r
        by false q true w l r = never (sym t ∙ (ap these (sym (eqb-true e.lookup i w)) ∙ q))
        by false q false w l r = r

pub same_answers : SameAnswers
same_answers size slots these map_a map_b run_a run_b f i t =
    without size slots these map_a map_a f.length_a f.length_a (λ s u. refl) i t run_a f.apart_a
    ∙ rw f.events (sym (without size slots these map_b map_a f.length_b f.length_a (λ s u. sym (f.entries s u)) i t run_b f.apart_b))

pub one_lookup : OneLookup
one_lookup size map i s run_a run_b right apart_a apart_b events = same_answers size (just s) (just i) map map run_a run_b
    (record { length_a = right; length_b = right; entries = λ k t. refl; apart_a = apart_a; apart_b = apart_b; events = events }) i (eq-eqb i i refl)
