-- Node sets by their members: each law cites a law over words once.
use mathlib.Core.Path.{◌≡◌, refl, sym, ap, subst, ◌∙◌}
use mathlib.Core.Logic.{◌⊎◌, inl, inr}
use mathlib.Core.Bool.{Bool, true, false, ◌||◌, cond}
use mathlib.Core.List.{List, [], ◌∷◌}
use Prim.Native.Nat.{ℕ, zero, suc, ◌/◌, ◌%◌, ◌<◌}
use native.Mathlib.Nat.{zero-add}
use native.Mathlib.Omega.{arith}
use lib.Dec.{eqb, ltb}
use lib.ListN.{length, get_or, length-set}
use lib.Pow.{pow_pos}
use borrow.Author.Tests.{eqb-true}
use Rattle.tables.specs.Sizes.{node_room}
use Rattle.tables.specs.Sets as sets
use Rattle.tables.specs.Majorities.{Within, Majority}
use Rattle.tables.proofs.Checks.{never}
use Rattle.tables.proofs.Sets.{bit_zero, has_add, has_words, words_fit, count_size, majority_counts}
use Rattle.tables.proofs.Words.{within_members, members_within, has_both, below_members, members_below, below_fits, within_fits, add_fits, member_bit}
use Rattle.nodesets.specs.NodeSets.{word_count, words, set_of, none, has, added, majority, within, both, below, gathered}
use Rattle.nodesets.specs.Members.{Fits, Members, Parts, Gathers}
use Rattle.nodesets.specs.declared.NodeSet.{NodeSet}

-- ---- the words of a set

pub as_many : (ws : List ℕ) → length ws ≡ word_count → words (set_of ws) ≡ ws
as_many (a ∷ []) l = refl
as_many [] l = absurd (omega arith)
as_many (a ∷ b ∷ ws) l = absurd (omega arith)

words_added : (s : NodeSet) (v : ℕ) → words (added s v) ≡ sets.add (words s) v
words_added s v = as_many (sets.add (words s) v) (simp length-set)

words_gathered : (p : ℕ → Bool) → words (gathered p) ≡ sets.words_from p 0 word_count
unfolding gathered sets.words_from
words_gathered p = refl

-- ---- members

pub none_in : (k : ℕ) → has none k ≡ false
none_in k = by (k / 64)
  where
    by : (i : ℕ) → sets.bit (get_or (words none) i 0) (k % 64) ≡ false
    by zero = bit_zero (k % 64)
    by (suc i) = bit_zero (k % 64)

-- a member is below the room
pub in_room_lem : (s : NodeSet) (v : ℕ) → has s v ≡ true → v < node_room
in_room_lem s v e = (member_bit s.word v e).0

pub in_added : (s : NodeSet) (v k : ℕ) → v < node_room → has (added s v) k ≡ (has s k || eqb k v)
in_added s v k h = ap (λ (ws : List ℕ). sets.has ws k) (words_added s v) ∙ has_add (words s) v k (omega arith)

pub in_both : (a b : NodeSet) (k : ℕ) → has (both a b) k ≡ cond (has a k) (has b k) false
in_both a b k = has_both (words a) (words b) k

pub in_gathered : (p : ℕ → Bool) → Gathers p
in_gathered p k = ap (λ (ws : List ℕ). sets.has ws k) (words_gathered p) ∙ has_words p 0 word_count k ∙ rw (zero-add k)

pub gathered_fits : (p : ℕ → Bool) → Fits (gathered p)
gathered_fits p = subst sets.AllFit (sym (words_gathered p)) (words_fit p 0 word_count)

module _ (part whole : NodeSet) where
  pub part_in : within part whole ≡ true → Within (has part) (has whole)
  part_in e k h = within_members (words part) (words whole) e k h

  pub in_part : Fits part → Within (has part) (has whole) → within part whole ≡ true
  in_part f g = members_within (words part) (words whole) refl f g

module _ (s : NodeSet) (n : ℕ) where
  pub below_in : below s n ≡ true → (k : ℕ) → has s k ≡ true → k < n
  below_in e = below_members (words s) n e

  pub in_below : Fits s → ((k : ℕ) → has s k ≡ true → k < n) → below s n ≡ true
  in_below f g = members_below (words s) n f g

  pub fits_below : below s n ≡ true → Fits s
  fits_below e = below_fits (words s) n e

-- ---- what an opening and an ack need: a gathered set is below its bound, none is within any, and one member more keeps within

passes : (t b : Bool) → cond t b false ≡ true → b ≡ true
passes true b q = q
passes false b q = never (sym q)

pub gathered_below : (p : ℕ → Bool) (n : ℕ) → ((k : ℕ) → p k ≡ true → k < n) → below (gathered p) n ≡ true
gathered_below p n f = in_below (gathered p) n (gathered_fits p) (λ k h. f k (passes (ltb k node_room) (p k) (sym (in_gathered p k) ∙ h)))

pub none_within : (whole : NodeSet) → within none whole ≡ true
none_within whole = in_part none whole (pow_pos 64, tt) (λ k h. never (sym h ∙ none_in k))

pub part_fits : (part whole : NodeSet) → within part whole ≡ true → Fits whole → Fits part
part_fits part whole e f = within_fits (words part) (words whole) e f

pub added_fits : (s : NodeSet) (v : ℕ) → Fits s → Fits (added s v)
added_fits s v f = subst sets.AllFit (sym (words_added s v)) (add_fits (words s) v f)

either : (b t : Bool) → (b || t) ≡ true → (b ≡ true) ⊎ (t ≡ true)
either true t e = inl refl
either false t e = inr e

pub within_added : (part whole : NodeSet) (v : ℕ) → Fits part → within part whole ≡ true → has whole v ≡ true → within (added part v) whole ≡ true
within_added part whole v f e h =
    in_part (added part v) whole (added_fits part v f) (λ k i. by k (either (has part k) (eqb k v) (sym (in_added part v k (in_room_lem whole v h)) ∙ i)))
  where
    by : (k : ℕ) → (has part k ≡ true) ⊎ (eqb k v ≡ true) → has whole k ≡ true
    by k (inl i) = part_in part whole e k i
    by k (inr q) = ap (has whole) (eqb-true k v q) ∙ h

-- ---- the statements

pub members : (s : NodeSet) → Members s
members s = record {
  in_room_lem = in_room_lem s;
  one_more = in_added s;
  in_both = in_both s;
  counted = λ f. sym (count_size (words s) f);
  each_below = λ n f. (below_in s n, in_below s n f);
}

pub parts : (part whole : NodeSet) → Parts part whole
parts part whole = record {
  each_within = λ f. (part_in part whole, in_part part whole f);
  most = λ f g. majority_counts (words whole) (words part) g f refl;
}

-- a majority, by its members
pub most_counted : (whole part : NodeSet) → Fits whole → Fits part → majority whole part ≡ true → Majority node_room (has part) (has whole)
most_counted whole part f g = ((parts part whole).most g f).0
