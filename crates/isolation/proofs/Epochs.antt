-- Why an older MOVED changes nothing and leads nowhere, and why no entry's epoch falls.
use Prim.Native.Nat.{ℕ, ◌<◌, ◌≤◌}
use mathlib.Core.Path.{◌≡◌, refl, sym, ap, subst, ◌∙◌}
use mathlib.Core.Logic.{◌⊎◌, inl, inr}
use mathlib.Core.Bool.{Bool, true, false}
use mathlib.Core.List.{List, [], ◌∷◌, ◌++◌}
use native.Mathlib.Omega.{arith}
use lib.Dec.{eqb}
use lib.Seq.{get_or-set_other}
use borrow.Author.Tests.{eq-eqb, eqb-true, eqb-false, lt-leb, lt-ltb}
use Rattle.tables.proofs.Checks.{never}
use Rattle.slots.proofs.Slots.{key_slot_below}
use Rattle.routing.specs.Replies.{Reply, moved}
use Rattle.lookups.specs.Keys.{slot_of, key_bytes}
use Rattle.lookups.specs.Lookups.{ends, at, is_stale, redirect_checks, heard}
use Rattle.lookups.specs.declared.Question.{Question}
use Rattle.lookups.specs.declared.End.TheVariants.{Stale, Refused}
use Rattle.lookups.specs.declared.Stage.{Stage}
use Rattle.lookups.specs.declared.Stage.TheVariants.{Asking, Ended}
use Rattle.lookups.specs.declared.Lookup.{Lookup}
use Rattle.lookups.specs.declared.Turn.{Turn}
use Rattle.cache.specs.Cache.{Map, entry_at, held_epoch, wrong_length}
use Rattle.cache.specs.declared.Entry.{Entry}
use Rattle.gateway.specs.Gateway.{no_roster, map_checks, turn, learn, Taken, taken}
use Rattle.gateway.proofs.Turns.{through, Older, turn_comes, why_ended}
use Rattle.isolation.specs.Runs.{Event, Happening, starts, hears, Progress, unstarted, reached, leaves, after}
use Rattle.isolation.specs.EveryRun.{asks}
use Rattle.isolation.specs.Replies.{Follows}
use Rattle.isolation.specs.Epochs.{Lower, StaleExactly, NotSentBackwards, NeverBackwards, NoLower, EpochNeverFalls}
use Rattle.isolation.proofs.Replies.{one_reply}
use Rattle.isolation.proofs.Isolation.{learned_here}

-- ---- one reply

module _ (l : Lookup) (map : Map) (size : ℕ) where
  abbrev s : ℕ
  s = slot_of l.key

  abbrev held : ℕ
  held = held_epoch size (entry_at map (slot_of l.key))

  abbrev Still : Turn → Type 0
  Still t = (learn map s t.learned ≡ map) × (asks t.stage ≡ 0)

  -- an older one, at any stage
  still : (named owner epoch : ℕ) → epoch < held → (stage : Stage) → Still (turn (wrong_length map) size s held stage (moved named owner epoch))
  unfolding turn heard
  still named owner epoch h (Ended end) = (refl, refl)
  still named owner epoch h (Asking q) = through Still (λ (n : ℕ). ends (Refused n)) (map_checks (wrong_length map) size) _ ((λ e. (refl, refl)), ((λ e. (refl, refl)), tt)) (λ g.
      through Still ends (redirect_checks size s q.hops named owner (is_stale held epoch)) _ ((λ e. (refl, refl)), ((λ e. (refl, refl)), ((λ e. (refl, refl)), tt)))
      (λ f. never (sym (lt-ltb epoch held h) ∙ f.1.1.0)))

  pub not_sent_backwards : (named owner epoch : ℕ) → epoch < held → NotSentBackwards l map size named owner epoch
  unfolding taken
  not_sent_backwards named owner epoch h = let f = still named owner epoch h l.stage in record { stays = f.0; asks_nobody = f.1 }

  module _ (q : Question) (r : Reply) where
    lower_ends : Lower l q map size r → turn (wrong_length map) size s held (Asking q) r ≡ ends Stale
    unfolding turn heard
    lower_ends f = rw (f.is_moved_lem, f.length, f.roster, eq-eqb s s refl, lt-leb size f.owner f.in_roster, lt-leb 4 q.hops f.few, lt-ltb f.epoch held f.lower)

    -- stale comes after the refusals
    not_refused : (turn (wrong_length map) size s held (Asking q) r).stage ≡ Ended Stale → (wrong_length map ≡ false) × (no_roster size ≡ false)
    unfolding turn
    not_refused = through (λ (t : Turn). t.stage ≡ Ended Stale → (wrong_length map ≡ false) × (no_roster size ≡ false)) (λ (n : ℕ). ends (Refused n)) (map_checks (wrong_length map) size) (heard size s held q r)
        ((λ e g. absurd (apart 1 g)), ((λ e g. absurd (apart 3 g)), tt)) (λ f g. (f.0, f.1.0))
      where
        apart : (n : ℕ) → Ended (Refused n) ≡ Ended Stale → ⊥
        apart n g = let z : ◌≡◌ {A = ℕ} 0 1 = cc in omega arith

    pub stale_exactly : StaleExactly l q map size r
    unfolding taken
    stale_exactly = record {
      ends = λ f. ap (λ (t : Turn). record { lookup = at l t.stage; map = learn map s t.learned }) (lower_ends f);
      only = λ e. from (not_refused e) (why_ended size s held q r (turn_comes size s held q (wrong_length map) r) Stale e);
    }
      where
        from : (wrong_length map ≡ false) × (no_roster size ≡ false) → Older size s held q r → Lower l q map size r
        from n o = record { length = n.0; roster = n.1; owner = o.owner; epoch = o.epoch; is_moved_lem = o.is_moved_lem; in_roster = o.in_roster; few = o.few; lower = o.below }

pub never_backwards : NeverBackwards
never_backwards l map size named owner epoch h = not_sent_backwards l map size named owner epoch h

-- ---- every interleaving

module _ (size s : ℕ) where
  same : (map : Map) → (entry_at map s).owner < size → NoLower size s map map
  same map h = record { stands = h; epoch = omega arith }

  -- an entry is written with a wrong length nowhere
  wrong_stays : (l : Lookup) (map : Map) (r : Reply) → wrong_length map ≡ true → (stage : Stage) → learn map (slot_of l.key) (turn (wrong_length map) size (slot_of l.key) (held_epoch size (entry_at map (slot_of l.key))) stage r).learned ≡ map
  unfolding turn
  wrong_stays l map r e (Ended end) = refl
  wrong_stays l map r e (Asking q) = rw e

  -- a MOVED that is followed has no lower epoch
  followed : (l : Lookup) (map : Map) (r : Reply) (t : Taken) → wrong_length map ≡ false → (entry_at map s).owner < size → Follows l map size r t → NoLower size s map t.map
  followed l map r t right h f = by (eqb s (slot_of l.key)) refl
    where
      by : (b : Bool) → eqb s (slot_of l.key) ≡ b → NoLower size s map t.map
      by true q =
          let e = eqb-true s (slot_of l.key) q in
          let is : entry_at t.map s ≡ record { owner = f.owner; epoch = f.epoch } = rw (f.owners, f.epochs, e) (learned_here map (slot_of l.key) (record { owner = f.owner; epoch = f.epoch }) right (key_slot_below (key_bytes l.key))) in
          let held : held_epoch size (entry_at map s) ≤ f.epoch = rw e f.not_older in
          record { stands = rw (ap (λ (x : Entry). x.owner) is) f.in_roster; epoch = rw (ap (λ (x : Entry). x.epoch) is) (rw (lt-ltb (entry_at map s).owner size h) at held) }
      by false q =
          let d = eqb-false s (slot_of l.key) q in
          record { stands = rw (f.owners, get_or-set_other map.owners (slot_of l.key) s f.owner 0 d) h; epoch = rw (f.epochs, get_or-set_other map.epochs (slot_of l.key) s f.epoch 0 d) (omega arith) }

  onward : (map : Map) (p : Progress) (w : Happening) → (entry_at map s).owner < size → NoLower size s map (leaves size map p w)
  unfolding taken
  onward map p (starts household key) h = same map h
  onward map unstarted (hears r) h = same map h
  onward map (reached l) (hears r) h = by (wrong_length map) refl
    where
      by : (b : Bool) → wrong_length map ≡ b → NoLower size s map (taken l map size r).map
      by true e = subst (NoLower size s map) (sym (wrong_stays l map r e l.stage)) (same map h)
      by false e = go (one_reply l map size r).moves
        where
          go : ((taken l map size r).map ≡ map) ⊎ Follows l map size r (taken l map size r) → NoLower size s map (taken l map size r).map
          go (inl m) = subst (NoLower size s map) (sym m) (same map h)
          go (inr f) = followed l map r (taken l map size r) e h f

  pub never_falls : (map : Map) (earlier later : List Event) → (entry_at (after size map earlier).map s).owner < size → NoLower size s (after size map earlier).map (after size map (later ++ earlier)).map
  unfolding after
  never_falls map earlier [] h = same (after size map earlier).map h
  never_falls map earlier (e ∷ later) h =
      let f = never_falls map earlier later h in
      let g = after size map (later ++ earlier) in
      let n = onward g.map (g.lookups e.lookup) e.what f.stands in
      record { stands = n.stands; epoch = omega (arith, f.epoch, n.epoch) }

pub epoch_never_falls : EpochNeverFalls
epoch_never_falls size map s earlier later h = never_falls size s map earlier later h
