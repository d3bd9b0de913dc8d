-- What a reply makes of a lookup that asks, case by case: it ends, or asks the node that an ASK or a MOVED names.
use Rattle.std.specs.Prelude.{None, Some}
use Prim.Native.Nat.{ℕ, ◌+◌, ◌≤◌, ◌<◌}
use mathlib.Core.Path.{◌≡◌, refl, sym, ap, subst}
use mathlib.Core.Bool.{Bool, true, false, cond, not}
use mathlib.Core.List.{List, [], ◌∷◌}
use lib.Dec.{eqb, leb}
use native.Mathlib.Omega.{arith}
use borrow.Author.Tests.{eq-eqb, lt-leb, eqb-true, leb-false, ltb-true, ltb-false, not-false}
use Rattle.tables.specs.Checks.{checked}
use Rattle.tables.proofs.Checks.{none, never}
use Rattle.routing.specs.Replies.{Reply, refused, down, serve, ask, moved}
use Rattle.lookups.specs.Lookups.{most_hops, ends, is_bad, is_stale, redirect_checks, sent_on, heard}
use Rattle.lookups.specs.declared.Question.{Question}
use Rattle.lookups.specs.declared.End.{End}
use Rattle.lookups.specs.declared.End.TheVariants.{Served, Bad, Down, Declined, TooMany, Stale, Refused}
use Rattle.lookups.specs.declared.Stage.{Stage}
use Rattle.lookups.specs.declared.Stage.TheVariants.{Asking, Ended}
use Rattle.lookups.specs.declared.Turn.{Turn}
use Rattle.cache.specs.Cache.{Map}
use Rattle.gateway.specs.Gateway.{map_checks, turn, named_slot, learn}

-- ---- checks in order

-- what holds of each answer whose test held
abbrev Each : {A B : Type 0} → (A → Type 0) → (B → A) → List (Bool × B) → Type 0
Each P refuse [] = Unit {0}
Each P refuse (row ∷ rows) = (row.0 ≡ true → P (refuse row.1)) × Each P refuse rows

abbrev Failed : {B : Type 0} → List (Bool × B) → Type 0
Failed [] = Unit {0}
Failed (row ∷ rows) = (row.0 ≡ false) × Failed rows

-- and of what comes after them where all failed, holds of the outcome
pub through : {A B : Type 0} (P : A → Type 0) (refuse : B → A) (rows : List (Bool × B)) (rest : A) → Each P refuse rows → (Failed rows → P rest) → P (checked refuse rows rest)
through P refuse [] rest each f = f tt
through P refuse (row ∷ rows) rest each f = go row.0 refl (through P refuse rows rest each.1)
  where
    go : (t : Bool) → row.0 ≡ t → ((Failed rows → P rest) → P (checked refuse rows rest)) → P (cond t (refuse row.1) (checked refuse rows rest))
    go true e h = each.0 e
    go false e h = h (λ g. f (e, g))

-- ---- the cases

module _ (size s : ℕ) where
  -- a redirection that is not bad
  abbrev pub Good : (named node : ℕ) → Type 0
  Good named node = (named ≡ s) × (node < size)

  good : (named node : ℕ) → is_bad size s named node ≡ false → Good named node
  good named node e =
      let l = not (eqb named s) ∷ leb size node ∷ [] in
      (eqb-true named s (not-false _ (none 0 l e)), leb-false size node (none 1 l e))

  bad : (named node : ℕ) → is_bad size s named node ≡ true → Good named node → ⊥
  bad named node e g = never (sym (rw (eq-eqb named s g.0, lt-leb size node g.1) at e))

  abbrev pub Names : Reply → Type 0
  Names (refused n) = Unit {0}
  Names down = Unit {0}
  Names serve = Unit {0}
  Names (ask named peer) = Good named peer
  Names (moved named owner epoch) = Good named owner

  -- with the epoch that is held of the slot
  module _ (held : ℕ) (q : Question) where
    -- a MOVED that is older, and neither bad nor a fifth redirection
    pub record Older (r : Reply) : Type 0 where
      pub owner : ℕ
      pub epoch : ℕ
      pub is_moved_lem : r ≡ moved s owner epoch
      pub in_roster : owner < size
      pub few : q.hops < most_hops
      pub below : epoch < held

    -- how the lookup may end
    abbrev pub Why : Reply → End → Type 0
    Why r (Served k) = k ≡ q.node
    Why r Bad = Names r → ⊥
    Why r Down = Unit {0}
    Why r (Declined n) = Unit {0}
    Why r TooMany = Unit {0}
    Why r Stale = Older r
    Why r (Refused n) = Unit {0}

    pub data Comes (r : Reply) : Turn → Type 0 where
      ended : (end : End) → Why r end → Comes r (ends end)
      sent : (peer : ℕ) → q.hops < most_hops → Comes r (record { stage = Asking (record { node = peer; asking = true; hops = q.hops + 1 }); learned = None })
      moves : (owner epoch : ℕ) → r ≡ moved s owner epoch → owner < size → q.hops < most_hops → held ≤ epoch
          → Comes r (record { stage = Asking (record { node = owner; asking = false; hops = q.hops + 1 }); learned = Some (record { owner = owner; epoch = epoch }) })

    heard_comes : (r : Reply) → Comes r (heard size s held q r)
    unfolding heard
    heard_comes (refused n) = ended (Declined n) tt
    heard_comes down = ended Down tt
    heard_comes serve = ended (Served q.node) refl
    heard_comes (ask named peer) = through (Comes (ask named peer)) ends (redirect_checks size s q.hops named peer false) _
        ((λ e. ended Bad (bad named peer e)), ((λ e. ended TooMany tt), ((λ e. never (sym e)), tt)))
        (λ f. sent peer (leb-false most_hops q.hops f.1.0))
    heard_comes (moved named owner epoch) = through (Comes (moved named owner epoch)) ends ((is_bad size s named owner, Bad) ∷ (leb most_hops q.hops, TooMany) ∷ []) _
        ((λ e. ended Bad (bad named owner e)), ((λ e. ended TooMany tt), tt)) (λ f. not_bad (good named owner f.0) (leb-false most_hops q.hops f.1.0))
      where
        -- what is left is whether it is older
        not_bad : Good named owner → q.hops < most_hops → Comes (moved named owner epoch) (checked ends ((is_stale held epoch, Stale) ∷ []) (record { stage = Asking (record { node = owner; asking = false; hops = q.hops + 1 }); learned = Some (record { owner = owner; epoch = epoch }) }))
        not_bad g few = through (Comes (moved named owner epoch)) ends ((is_stale held epoch, Stale) ∷ []) _
            ((λ e. ended Stale (record { owner = owner; epoch = epoch; is_moved_lem = rw g.0; in_roster = g.1; few = few; below = ltb-true epoch held e })), tt)
            (λ f. moves owner epoch (rw g.0) g.1 few (ltb-false epoch held f.0))

    pub turn_comes : (wrong : Bool) (r : Reply) → Comes r (turn wrong size s held (Asking q) r)
    unfolding turn
    turn_comes wrong r = through (Comes r) (λ (n : ℕ). ends (Refused n)) (map_checks wrong size) (heard size s held q r)
        ((λ e. ended (Refused 1) tt), ((λ e. ended (Refused 3) tt), tt)) (λ f. heard_comes r)

    pub why_ended : (r : Reply) {t : Turn} → Comes r t → (end : End) → t.stage ≡ Ended end → Why r end
    why_ended r (ended other why) end e = let f : other ≡ end = cc in subst (Why r) f why
    why_ended r (sent peer h) end e = let z : ◌≡◌ {A = ℕ} 0 1 = cc in absurd (omega arith)
    why_ended r (moves owner epoch m i h n) end e = let z : ◌≡◌ {A = ℕ} 0 1 = cc in absurd (omega arith)

    named_comes : (map : Map) (r : Reply) {t : Turn} → Comes r t → learn map (named_slot r) t.learned ≡ learn map s t.learned
    named_comes map r (ended end why) = refl
    named_comes map r (sent peer h) = refl
    named_comes map r (moves owner epoch m i h n) = ap (λ (x : Reply). learn map (named_slot x) (Some (record { owner = owner; epoch = epoch }))) m

  -- where something was learned, the reply named the key's slot
  pub named_turn : (map : Map) (wrong : Bool) (held : ℕ) (stage : Stage) (r : Reply)
      → learn map (named_slot r) (turn wrong size s held stage r).learned ≡ learn map s (turn wrong size s held stage r).learned
  unfolding turn
  named_turn map wrong held (Ended end) r = refl
  named_turn map wrong held (Asking q) r = named_comes held q map r (turn_comes held q wrong r)

  -- what is held of the slot that a reply names says as much as what is held of the key's: where they are two, the reply is bad
  pub held_named : (held : ℕ → ℕ) (q : Question) (r : Reply) → heard size s (held (named_slot r)) q r ≡ heard size s (held s) q r
  unfolding heard
  held_named held q (refused n) = refl
  held_named held q down = refl
  held_named held q serve = refl
  held_named held q (ask named peer) = refl
  held_named held q (moved named owner epoch) = by (eqb named s) refl
    where
      goes : ℕ → Turn
      goes k = sent_on size s q.hops named owner (is_stale (held k) epoch) false (Some (record { owner = owner; epoch = epoch }))

      by : (t : Bool) → eqb named s ≡ t → goes named ≡ goes s
      by true e = ap goes (eqb-true named s e)
      by false e = rw e
