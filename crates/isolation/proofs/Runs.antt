-- What one event does to a lookup and to the map: their laws, and which slots the lookups of a run are on.
use Prim.Native.Nat.{ℕ}
use mathlib.Core.Path.{◌≡◌, refl, sym, ap, subst, ◌∙◌}
use mathlib.Core.Bool.{Bool, true, false, cond}
use mathlib.Core.List.{List, [], ◌∷◌}
use lib.Dec.{eqb}
use borrow.Author.Tests.{eqb-true}
use Rattle.tables.proofs.Checks.{never}
use Rattle.lookups.specs.Keys.{slot_of}
use Rattle.cache.specs.Cache.{Map, entry_at, wrong_length}
use Rattle.gateway.specs.Gateway.{turn_of, started, taken}
use Rattle.isolation.specs.Runs.{Event, Happening, starts, hears, Progress, unstarted, reached, becomes, leaves, after}
use Rattle.isolation.specs.Isolation.{Matches, Apart}
use Rattle.isolation.proofs.Replies.{learn_length, learn_others}

module _ (size : ℕ) where
  leaves_length : (map : Map) (h : Progress) (w : Happening) → wrong_length (leaves size map h w) ≡ wrong_length map
  unfolding taken
  leaves_length map h (starts household key) = refl
  leaves_length map unstarted (hears r) = refl
  leaves_length map (reached l) (hears r) = learn_length map (slot_of l.key) (turn_of l map size r).learned

  pub after_length : (map : Map) (run : List Event) → wrong_length (after size map run).map ≡ wrong_length map
  unfolding after
  after_length map [] = refl
  after_length map (e ∷ es) = leaves_length (after size map es).map ((after size map es).lookups e.lookup) e.what ∙ after_length map es

  -- what holds of a lookup that has not started, goes on by its own events and stays over those of others, holds after every run
  pub by_events : (map : Map) (i : ℕ) (P : List Event → Progress → Type 0) → P [] unstarted
      → ((e : Event) (es : List Event) → eqb e.lookup i ≡ true → P es ((after size map es).lookups i) → P (e ∷ es) (becomes size (after size map es).map ((after size map es).lookups i) e.what))
      → ((e : Event) (es : List Event) → eqb e.lookup i ≡ false → P es ((after size map es).lookups i) → P (e ∷ es) ((after size map es).lookups i))
      → (run : List Event) → P run ((after size map run).lookups i)
  unfolding after
  by_events map i P z f g [] = z
  by_events map i P z f g (e ∷ es) = by (eqb e.lookup i) refl (by_events map i P z f g es)
    where
      by : (t : Bool) → eqb e.lookup i ≡ t → P es ((after size map es).lookups i) → P (e ∷ es) (cond t (becomes size (after size map es).map ((after size map es).lookups i) e.what) ((after size map es).lookups i))
      by true = f e es
      by false = g e es

  module _ (slots these : ℕ → Bool) where
    -- a lookup is on one of the slots exactly if it is one of these
    abbrev pub On : ℕ → Progress → Type 0
    On j unstarted = Unit {0}
    On j (reached l) = slots (slot_of l.key) ≡ these j

    becomes_on : (map : Map) (j : ℕ) (h : Progress) (w : Happening) → On j h → Matches slots these j w → On j (becomes size map h w)
    unfolding started taken
    becomes_on map j h (starts household key) o m = m
    becomes_on map j unstarted (hears r) o m = tt
    becomes_on map j (reached l) (hears r) o m = o

    pub all_on : (map : Map) (j : ℕ) (run : List Event) → Apart slots these run → On j ((after size map run).lookups j)
    all_on map j = by_events map j (λ run p. Apart slots these run → On j p) (λ a. tt)
        (λ e es t f a. becomes_on (after size map es).map j ((after size map es).lookups j) e.what (f a.1) (subst (λ (n : ℕ). Matches slots these n e.what) (eqb-true e.lookup j t) a.0))
        (λ e es t f a. f a.1)

    -- a lookup that is none of these leaves the entries of the slots
    pub leaves_others : (map : Map) (j : ℕ) (h : Progress) (w : Happening) → these j ≡ false → On j h → (s : ℕ) → slots s ≡ true → entry_at (leaves size map h w) s ≡ entry_at map s
    unfolding taken
    leaves_others map j h (starts household key) f o s t = refl
    leaves_others map j unstarted (hears r) f o s t = refl
    leaves_others map j (reached l) (hears r) f o s t =
        learn_others map (slot_of l.key) s (turn_of l map size r).learned (λ e. never (sym t ∙ (ap slots e ∙ (o ∙ f))))
