-- The claims on the slots from a place on, 64 or as many as the table has, read from the lowest on: between two bits no slot is claimed.
use mathlib.Core.Path.{◌≡◌, refl, sym, ap, ◌∙◌}
use mathlib.Core.Bool.{Bool, true, false, cond}
use mathlib.Core.List.{List}
use Prim.Native.Nat.{ℕ, ◌+◌, ◌-◌, min, ◌≤◌, ◌<◌}
use native.Mathlib.Nat.{lt_of_lt_of_le}
use native.Mathlib.Omega.{arith}
use lib.Count.{trailing_le}
use lib.Dec.{ltb}
use lib.Pow.{pow_mono}
use borrow.Author.Tests.{lt-ltb, ltb-true}
use Rattle.tables.specs.Sets.{bit, claimed, word_of}
use Rattle.tables.proofs.Checks.{never}
use Rattle.tables.proofs.Sets.{bit_word, word_fits}
use Rattle.bitmaps.proofs.Scan.{lowest, rest, Left, left_whole, left_nothing, none_before, all_read, is_set, left_on, moves_up, none_between}

-- of a table of n slots
abbrev pub claims : List ℕ → ℕ → ℕ → ℕ
claims m n from = word_of (claimed m) from (min (n - from) 64)

module _ (m : List ℕ) (n from k : ℕ) where
  a_claim : bit (claims m n from) k ≡ true → (from + k < n) × (claimed m (from + k) ≡ true)
  a_claim e = by (ltb k (min (n - from) 64)) refl (sym (bit_word (claimed m) from (min (n - from) 64) k) ∙ e)
    where
      by : (t : Bool) → ltb k (min (n - from) 64) ≡ t → cond t (claimed m (from + k)) false ≡ true → (from + k < n) × (claimed m (from + k) ≡ true)
      by true q h = let l : k < min (n - from) 64 = ltb-true _ _ q in (omega arith, h)
      by false q h = never (sym h)

-- a slot whose bit is not set
no_claim : (m : List ℕ) (n from s : ℕ) → from ≤ s → s < from + 64 → s < n → bit (claims m n from) (s - from) ≡ false → claimed m s ≡ false
no_claim m n from s h g t e =
    let q : ltb (s - from) (min (n - from) 64) ≡ true = lt-ltb (s - from) (min (n - from) 64) (omega arith) in
    let p : from + (s - from) ≡ s = omega arith in
    rw (q, p) at (sym (bit_word (claimed m) from (min (n - from) 64) (s - from)) ∙ e)

-- w is what is left of them to be read
pub record Unread (m : List ℕ) (n from w : ℕ) : Type 0 where
  pub bits : Left (claims m n from) w

-- a turn: the lowest bit is the claim of a slot of the table
module _ {m : List ℕ} {n from w : ℕ} (u : Unread m n from w) (f : w ≡ 0 → ⊥) where
  pub in_table : from + lowest w < n
  in_table = (a_claim m n from (lowest w) (is_set u.bits f)).0

  pub is_claimed_lem : claimed m (from + lowest w) ≡ true
  is_claimed_lem = (a_claim m n from (lowest w) (is_set u.bits f)).1

-- ---- a walk over the table that has come to a slot (P) goes on over slots that are not claimed

pub record Carries (P : ℕ → Type 0) (m : List ℕ) (n : ℕ) : Type 0 where
  pub over : {s s' : ℕ} → s ≤ s' → ((k : ℕ) → s ≤ k → k < s' → k < n → claimed m k ≡ false) → P s → P s'

-- at what is left of a word, w, it has come to the slot of the lowest bit
pub record Reads (P : ℕ → Type 0) (m : List ℕ) (n from w : ℕ) : Type 0 where
  pub unread : Unread m n from w
  pub at : P (from + lowest w)

module _ {P : ℕ → Type 0} {m : List ℕ} {n from w : ℕ} where
  -- it starts at the first bit, since no slot before it is claimed
  pub opens : Carries P m n → w ≡ claims m n from → P from → Reads P m n from w
  opens c e p = record {
    unread = record { bits = rw e (left_whole (claims m n from) (lt_of_lt_of_le (word_fits (claimed m) from (min (n - from) 64)) (pow_mono {j = 64} (omega arith)))) };
    at = c.over (omega arith) (λ s h g t. no_claim m n from s h (omega (arith, trailing_le 64 w)) t (none_before (claims m n from) (s - from) (omega (arith, ap lowest e)))) p;
  }

  -- where none of the 64 need be looked at
  pub opens_none : w ≡ 0 → P (from + 64) → Reads P m n from w
  opens_none e p = record { unread = record { bits = rw e (left_nothing (claims m n from)) }; at = rw (all_read w e) p }

  -- nothing is left: all 64 were read
  pub closes : Reads P m n from w → w ≡ 0 → P (from + 64)
  closes r e = rw (all_read w e) at r.at

  -- after a turn the next bit is read, since no slot between the two is claimed
  pub reads_on : {Q : ℕ → Type 0} → Carries Q m n → Reads P m n from w → (w ≡ 0 → ⊥) → Q (from + lowest w + 1) → Reads Q m n from (rest w)
  reads_on c r f q = record {
    unread = record { bits = left_on r.unread.bits f };
    at = c.over (omega (arith, moves_up r.unread.bits f)) (λ s h g t. no_claim m n from s (omega arith) (omega (arith, trailing_le 64 (rest w))) t (none_between r.unread.bits f (s - from) (omega arith) (omega arith))) q;
  }
