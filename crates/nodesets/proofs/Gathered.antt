-- A set gathered in a loop: the numbers passed so far that pass a test, and at the end all that pass.
use mathlib.Core.Path.{◌≡◌, refl, sym, ap, ap₂, ◌∙◌}
use mathlib.Core.Bool.{Bool, true, false, ◌||◌, cond, or-false, or_assoc}
use mathlib.Core.List.{List, [], ◌∷◌}
use Prim.Native.Nat.{ℕ, ◌+◌, ◌≤◌, ◌<◌}
use native.Mathlib.Decide.{dec_lt, ℕ_discrete}
use native.Mathlib.Omega.{arith}
use lib.Bits.{and_comm}
use lib.Dec.{eqb, ltb}
use lib.ListN.{length, drop, get_or}
use lib.Pow.{pow_pos}
use borrow.Author.Tests.{lt-ltb, le-ltb, eq-eqb, ne_eqb}
use Rattle.tables.specs.Sizes.{node_room}
use Rattle.tables.specs.Checks.{all_of}
use Rattle.tables.specs.Lists.{occurs}
use Rattle.tables.specs.Sets as sets
use Rattle.tables.proofs.Checks.{never}
use Rattle.tables.proofs.Walks.{occurs_turn, occurs_ended}
use Rattle.tables.proofs.Words.{within_parts, members_within, both_fits, add_out, has_out}
use Rattle.nodesets.specs.NodeSets.{words, set_of, none, has, added, both, gathered, among}
use Rattle.nodesets.specs.Members.{Fits}
use Rattle.nodesets.specs.declared.NodeSet.{NodeSet}
use Rattle.nodesets.proofs.Members.{none_in, in_added, in_both, added_fits, in_gathered, gathered_fits}

-- ---- sets with the same members are the same

both_ways : (xs ys : List ℕ) → sets.within xs ys ≡ true → sets.within ys xs ≡ true → xs ≡ ys
both_ways [] [] e f = refl
both_ways [] (y ∷ ys) e f = never (sym f)
both_ways (x ∷ xs) [] e f = never (sym e)
both_ways (x ∷ xs) (y ∷ ys) e f =
    let p = within_parts x y xs ys e in
    let q = within_parts y x ys xs f in
    ap₂ (λ (w : ℕ) (ws : List ℕ). w ∷ ws) (sym p.0 ∙ and_comm x y ∙ q.0) (both_ways xs ys p.1 q.1)

pub same_members : (a b : NodeSet) → Fits a → Fits b → ((k : ℕ) → has a k ≡ has b k) → a ≡ b
same_members a b f g h =
    ap set_of (both_ways (words a) (words b) (members_within (words a) (words b) refl f (λ k e. sym (h k) ∙ e)) (members_within (words b) (words a) refl g (λ k e. h k ∙ e)))

-- ---- the members of two gathered sets, and the numbers that stand in a table

pub both_gathered : (p q : ℕ → Bool) → both (gathered p) (gathered q) ≡ gathered (λ k. all_of (p k ∷ q k ∷ []))
both_gathered p q =
    same_members (both (gathered p) (gathered q)) (gathered (λ k. all_of (p k ∷ q k ∷ []))) (both_fits (words (gathered p)) (words (gathered q)) (gathered_fits q)) (gathered_fits (λ k. all_of (p k ∷ q k ∷ [])))
    (λ k. in_both (gathered p) (gathered q) k ∙ ap₂ (λ (s t : Bool). cond s t false) (in_gathered p k) (in_gathered q k) ∙ by (ltb k node_room) (p k) (q k) ∙ sym (in_gathered (λ k. all_of (p k ∷ q k ∷ [])) k))
  where
    by : (l s t : Bool) → cond (cond l s false) (cond l t false) false ≡ cond l (cond s t false) false
    by true s t = refl
    by false s t = refl

-- those passed in a table are in the set, and of the others it is still to be asked
pub record Passed (entries : List ℕ) (i : ℕ) (s : NodeSet) : Type 0 where
  pub fits : Fits s
  pub members : (k : ℕ) → k < node_room → occurs entries k ≡ (has s k || occurs (drop i entries) k)

module _ (entries : List ℕ) where
  pub passed_none : Passed entries 0 none
  passed_none = record { fits = (pow_pos 64, tt); members = λ k l. rw (none_in k) }

  pub passed_more : (i : ℕ) (s : NodeSet) → i < length entries → Passed entries i s → Passed entries (i + 1) (added s (get_or entries i 0))
  passed_more i s h g = record {
    fits = added_fits s v g.fits;
    members = λ k l.
        g.members k l
        ∙ ap (λ (b : Bool). has s k || b) (occurs_turn k entries i h)
        ∙ sym (or_assoc (has s k) (eqb v k) (occurs (drop (i + 1) entries) k))
        ∙ ap (λ (b : Bool). b || occurs (drop (i + 1) entries) k) (by k l (dec_lt v node_room));
  }
    where
      v : ℕ
      v = get_or entries i 0

      turned : (k : ℕ) → Dec (v ≡ k) → eqb v k ≡ eqb k v
      turned k (yes e) = eq-eqb v k e ∙ sym (eq-eqb k v (sym e))
      turned k (no f) = ne_eqb v k f ∙ sym (ne_eqb k v (λ e. f (sym e)))

      by : (k : ℕ) → k < node_room → Dec (v < node_room) → (has s k || eqb v k) ≡ has (added s v) k
      by k l (yes m) = ap (λ (b : Bool). has s k || b) (turned k (ℕ_discrete v k)) ∙ sym (in_added s v k m)
      by k l (no f) = rw (ne_eqb v k (λ e. f (omega arith))) (or-false (has s k) ∙ ap (λ (x : NodeSet). has x k) (sym (ap set_of (add_out s.word v (omega arith)))))

  pub passed_all : (i : ℕ) (s : NodeSet) → length entries ≤ i → Passed entries i s → s ≡ among entries
  passed_all i s h g = same_members s (among entries) g.fits (gathered_fits (occurs entries)) (λ k. by k (dec_lt k node_room) ∙ sym (in_gathered (occurs entries) k))
    where
      by : (k : ℕ) → Dec (k < node_room) → has s k ≡ cond (ltb k node_room) (occurs entries k) false
      by k (yes l) = rw (lt-ltb k node_room l, g.members k l, occurs_ended k entries i h) (sym (or-false (has s k)))
      by k (no f) = rw (le-ltb k node_room (omega arith)) (has_out s.word k (omega arith))

-- ---- a loop over numbers

-- the set of the numbers below n that pass
pub record Gathered (p : ℕ → Bool) (n : ℕ) (s : NodeSet) : Type 0 where
  pub fits : Fits s
  pub members : (k : ℕ) → has s k ≡ cond (ltb k n) (p k) false

module _ (p : ℕ → Bool) where
  pub at_first : Gathered p 0 none
  at_first = record { fits = (pow_pos 64, tt); members = λ k. none_in k ∙ rw (le-ltb k 0 (omega arith)) }

  -- one number later
  later : (n : ℕ) (t : Bool) → p n ≡ t → (k : ℕ) → cond (ltb k (n + 1)) (p k) false ≡ (cond (ltb k n) (p k) false || cond t (eqb k n) false)
  later n t e k = by (dec_lt k n) (ℕ_discrete k n)
    where
      by : Dec (k < n) → Dec (k ≡ n) → cond (ltb k (n + 1)) (p k) false ≡ (cond (ltb k n) (p k) false || cond t (eqb k n) false)
      by (yes l) d = rw (lt-ltb k n l, lt-ltb k (n + 1) (omega arith), ne_eqb k n (λ q. omega arith)) (alone (p k) t)
        where
          alone : (b t : Bool) → b ≡ (b || cond t false false)
          alone true t = refl
          alone false true = refl
          alone false false = refl
      by (no l) (yes q) = rw (le-ltb k n (omega arith), lt-ltb k (n + 1) (omega arith), eq-eqb k n q, q, e) (only t)
        where
          only : (t : Bool) → t ≡ cond t true false
          only true = refl
          only false = refl
      by (no l) (no q) = rw (le-ltb k n (omega arith), le-ltb k (n + 1) (omega arith), ne_eqb k n q) (nothing t)
        where
          nothing : (t : Bool) → false ≡ cond t false false
          nothing true = refl
          nothing false = refl

  pub with_it : (n : ℕ) (s : NodeSet) → n < node_room → p n ≡ true → Gathered p n s → Gathered p (n + 1) (added s n)
  with_it n s h e g = record {
    fits = added_fits s n g.fits;
    members = λ k. in_added s n k h ∙ ap (λ (b : Bool). b || eqb k n) (g.members k) ∙ sym (later n true e k);
  }

  pub without_it : (n : ℕ) (s : NodeSet) → p n ≡ false → Gathered p n s → Gathered p (n + 1) s
  without_it n s e g = record {
    fits = g.fits;
    members = λ k. g.members k ∙ sym (later n false e k ∙ or-false (cond (ltb k n) (p k) false));
  }

  -- at the end, where nothing more below the room passes
  pub at_last : (n : ℕ) (s : NodeSet) → ((k : ℕ) → n ≤ k → k < node_room → p k ≡ false) → n ≤ node_room → Gathered p n s → s ≡ gathered p
  at_last n s f l g = same_members s (gathered p) g.fits (gathered_fits p) (λ k. g.members k ∙ by k (dec_lt k n) (dec_lt k node_room) ∙ sym (in_gathered p k))
    where
      by : (k : ℕ) → Dec (k < n) → Dec (k < node_room) → cond (ltb k n) (p k) false ≡ cond (ltb k node_room) (p k) false
      by k (yes h) d = rw (lt-ltb k n h, lt-ltb k node_room (omega arith))
      by k (no h) (yes d) = rw (le-ltb k n (omega arith), lt-ltb k node_room d) (sym (f k (omega arith) d))
      by k (no h) (no d) = rw (le-ltb k n (omega arith), le-ltb k node_room (omega arith))
