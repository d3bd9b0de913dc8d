-- The known configEpochs as a loop over the records collects them, and records by their places.
use mathlib.Core.Path.{◌≡◌, refl, sym, ap, subst, ◌∙◌}
use mathlib.Core.Bool.{Bool, true, false, cond}
use mathlib.Core.List.{List, [], ◌∷◌}
use Prim.Native.Nat.{ℕ, zero, suc, ◌+◌, ◌≤◌, ◌<◌}
use native.Mathlib.Nat.{zero-add, le_of_suc-le-suc, not-suc-le-zero}
use native.Mathlib.Omega.{arith}
use lib.Dec.{ltb}
use lib.ListN.{length, get_or, set, replicate, length-set, get_or-eq_default}
use lib.Seq.{set_out, set-get_or}
use borrow.Author.Tests.{lt-ltb, le-ltb, ltb-true, ltb-false}
use Rattle.tables.specs.Sizes.{node_room}
use Rattle.tables.specs.Lists.{map_from}
use Rattle.tables.proofs.Walks.{length_mapped, mapped_at}
use Rattle.state.specs.Node.{blank}
use Rattle.state.specs.declared.Record.{Record}
use Rattle.records.specs.Known.{known_configs, in_room, place_of}

-- ---- the configEpochs of the nodes below s

abbrev below : ℕ → ℕ → Record → ℕ
below s k r = cond (ltb k s) r.config 0

nothing_below : (s i : ℕ) (rs : List Record) → s ≤ i → map_from (below s) i rs ≡ replicate (length rs) 0
unfolding map_from
nothing_below s i [] h = refl
nothing_below s i (r ∷ rs) h = rw (le-ltb i s h, nothing_below s (suc i) rs (omega arith))

all_below : (s t i : ℕ) (rs : List Record) → i + length rs ≤ s → i + length rs ≤ t → map_from (below s) i rs ≡ map_from (below t) i rs
unfolding map_from
all_below s t i [] h g = refl
all_below s t i (r ∷ rs) h g = rw (lt-ltb i s (omega arith), lt-ltb i t (omega arith), all_below s t (suc i) rs (omega arith) (omega arith))

one_more : (i k : ℕ) (rs : List Record) → k < length rs → set (map_from (below (i + k)) i rs) k (get_or rs k blank).config ≡ map_from (below (i + k + 1)) i rs
unfolding map_from
one_more i k [] h = absurd (not-suc-le-zero h)
one_more i zero (r ∷ rs) h = rw (lt-ltb i (i + 0 + 1) (omega arith), nothing_below (i + 0) (suc i) rs (omega arith), nothing_below (i + 0 + 1) (suc i) rs (omega arith))
one_more i (suc k) (r ∷ rs) h =
    let P : ℕ → Type 0 = λ n. set (map_from (below n) (suc i) rs) k (get_or rs k blank).config ≡ map_from (below (n + 1)) (suc i) rs in
    let e : suc i + k ≡ i + suc k = omega arith in
    rw (lt-ltb i (i + suc k) (omega arith), lt-ltb i (i + suc k + 1) (omega arith)) (ap (λ (xs : List ℕ). r.config ∷ xs) (subst P e (one_more (suc i) k rs (le_of_suc-le-suc h))))

-- ---- a loop that has collected those of the nodes below k

pub record Collected (rs : List Record) (configs : List ℕ) (k : ℕ) : Type 0 where
  pub long : length configs ≡ node_room
  pub is : configs ≡ known_configs k rs

module _ (rs : List Record) (room : length rs ≡ node_room) where
  pub collected_none : Collected rs (replicate node_room 0) 0
  unfolding known_configs
  collected_none = record { long = refl; is = sym (nothing_below 0 0 rs (omega arith) ∙ ap (λ (n : ℕ). replicate n 0) room) }

  pub collected_more : (configs : List ℕ) (k : ℕ) → Collected rs configs k → k < node_room → Collected rs (set configs k (get_or rs k blank).config) (k + 1)
  unfolding known_configs
  collected_more configs k c h =
      let more = one_more 0 k rs (rw room h) in
      record { long = length-set configs k _ ∙ c.long; is = rw c.is (rw (zero-add k) at more) }

  -- at the last of them that has a record
  pub collected_all : (configs : List ℕ) (size k : ℕ) → Collected rs configs k → in_room size size node_room ≤ k → k ≤ in_room size size node_room → configs ≡ known_configs size rs
  unfolding known_configs
  collected_all configs size k c h g = c.is ∙ by (ltb size node_room) refl h g
    where
      by : (b : Bool) → ltb size node_room ≡ b → cond b size node_room ≤ k → k ≤ cond b size node_room → map_from (below k) 0 rs ≡ map_from (below size) 0 rs
      by true e h g = let q : k ≡ size = omega arith in rw q
      by false e h g = all_below k size 0 rs (omega (arith, room)) (omega (arith, room, ltb-false size node_room e))

-- the configEpoch of a listed node, by its number
pub known_config : (size : ℕ) (rs : List Record) (k : ℕ) → k < size → get_or (known_configs size rs) k 0 ≡ (get_or rs k blank).config
unfolding known_configs
known_config size rs k h = by (ltb k (length rs)) refl
  where
    by : (b : Bool) → ltb k (length rs) ≡ b → get_or (map_from (below size) 0 rs) k 0 ≡ (get_or rs k blank).config
    by true e = mapped_at (below size) 0 rs k blank 0 (ltb-true k (length rs) e) ∙ rw (zero-add k, lt-ltb k size h)
    by false e =
        let past : length rs ≤ k = ltb-false k (length rs) e in
        let gone : length (map_from (below size) 0 rs) ≤ k = rw (length_mapped (below size) 0 rs) past in
        get_or-eq_default (map_from (below size) 0 rs) 0 gone ∙ sym (ap (λ (r : Record). r.config) (get_or-eq_default rs blank past))

-- ---- a record by its place

-- it is inside
pub place_inside : (k at : ℕ) → at ≡ place_of k → at < node_room
place_inside k at e = rw e (by (ltb k node_room) refl)
  where
    by : (b : Bool) → ltb k node_room ≡ b → cond b k 0 < node_room
    by true q = ltb-true k node_room q
    by false q = omega arith

-- and so are the listed nodes that have a record
pub listed_inside : (size count : ℕ) → count ≡ in_room size size node_room → count ≤ node_room
listed_inside size count e = rw e (by (ltb size node_room) refl)
  where
    by : (b : Bool) → ltb size node_room ≡ b → cond b size node_room ≤ node_room
    by true q = let l : size < node_room = ltb-true size node_room q in omega arith
    by false q = omega arith

module _ (rs : List Record) (room : length rs ≡ node_room) (k : ℕ) where
  -- what is read there is what is known of the number
  pub known_there : in_room k (get_or rs (place_of k) blank) blank ≡ get_or rs k blank
  known_there = by (ltb k node_room) refl
    where
      by : (b : Bool) → ltb k node_room ≡ b → cond b (get_or rs (cond b k 0) blank) blank ≡ get_or rs k blank
      by true e = refl
      by false e = sym (get_or-eq_default rs blank (omega (arith, room, ltb-false k node_room e)))

  -- a change stored there is the change of the number's record, and nothing for a number that has none
  pub changed_there : (f : Record → Record) → set rs (place_of k) (in_room k (f (get_or rs (place_of k) blank)) (get_or rs (place_of k) blank)) ≡ set rs k (f (get_or rs k blank))
  changed_there f = by (ltb k node_room) refl
    where
      by : (b : Bool) → ltb k node_room ≡ b → set rs (cond b k 0) (cond b (f (get_or rs (cond b k 0) blank)) (get_or rs (cond b k 0) blank)) ≡ set rs k (f (get_or rs k blank))
      by true e = refl
      by false e = set-get_or rs 0 blank ∙ sym (set_out rs k (f (get_or rs k blank)) (omega (arith, room, ltb-false k node_room e)))
