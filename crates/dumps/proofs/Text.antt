-- Text: its digits from a place on, and entries that take their digits in from below.
use Rattle.std.specs.Prelude.{count_by}
use Rattle.std.proofs.lemmas.List.Recursion.{is_count_by}
use mathlib.Core.Path.{◌≡◌, refl, sym, ap, ◌∙◌}
use mathlib.Core.Bool.{Bool, true, false, cond, not}
use mathlib.Core.List.{List, [], ◌∷◌, ◌++◌, append-nil}
use Prim.Native.Nat.{ℕ, suc, ◌+◌, ◌*◌, ◌/◌, ◌%◌, ◌≤◌, ◌<◌}
use native.Mathlib.Omega.{arith}
use native.Mathlib.Numerals.{add-one}
use lib.ListN.{length, take, drop, get_or, set, length-set, drop_of_length-le}
use lib.Seq.{drop-cons, take_all, take-suc-set, get_or-set_same, set-set, set-get_or, append_snoc}
use Rattle.hexdigits.specs.Hex.{digit}
use Rattle.hexdigits.proofs.Digits.{digit_lt}
use Rattle.dumps.specs.Dumps.{is_space, small, digits, fours}

-- ---- the digits from place i on

module _ (input : List ℕ) (i : ℕ) where
  pub space_here : i < length input → is_space (get_or input i 0) ≡ true → digits (drop i input) ≡ digits (drop (i + 1) input)
  unfolding digits
  space_here h e = rw (drop-cons input i 0 h, digits, e, add-one i)

  pub digit_here : i < length input → is_space (get_or input i 0) ≡ false → digits (drop i input) ≡ digit (small (get_or input i 0)) ∷ digits (drop (i + 1) input)
  unfolding digits
  digit_here h e = rw (drop-cons input i 0 h, digits, e, add-one i)

  pub digits_ended : length input ≤ i → digits (drop i input) ≡ []
  unfolding digits
  digits_ended h = rw (drop_of_length-le input h)

-- there are as many as characters that are no spaces
pub digits_counted : (input : List ℕ) → length (digits input) ≡ count_by (λ c. not (is_space c)) input
unfolding digits
digits_counted = is_count_by (λ cs. length (digits cs)) (λ c. not (is_space c)) refl (λ c cs. go (is_space c) (digit (small c)) (digits cs))
  where
    go : (t : Bool) (d : ℕ) (ds : List ℕ) → length (cond t ds (d ∷ ds)) ≡ cond (not t) (1 + length ds) (length ds)
    go true d ds = refl
    go false d ds = omega arith

-- ---- each is below 16

abbrev Below : List ℕ → Type 0
Below [] = Unit {0}
Below (d ∷ ds) = (d < 16) × Below ds

digits_below_lem : (input : List ℕ) → Below (digits input)
unfolding digits
digits_below_lem [] = tt
digits_below_lem (c ∷ cs) = go (is_space c) (digits_below_lem cs)
  where
    go : (t : Bool) → Below (digits cs) → Below (cond t (digits cs) (digit (small c) ∷ digits cs))
    go true b = b
    go false b = (digit_lt (small c), b)

-- ---- digits taken in from below

-- a digit behind an entry's low three
abbrev pub behind : ℕ → ℕ → ℕ
behind entry d = entry % 4096 * 16 + d

-- the table when the digits from the n-th on are taken in
unfoldable pub poured : ℕ → List ℕ → List ℕ → List ℕ
poured n [] slots = slots
poured n (d ∷ ds) slots = poured (n + 1) ds (set slots (n / 4) (behind (get_or slots (n / 4) 0) d))

module _ (slots : List ℕ) (k : ℕ) (h : k < length slots) where
  -- one digit into entry k, which is x by now
  more : (ds : List ℕ) (n x d : ℕ) → n / 4 ≡ k → poured n (d ∷ ds) (set slots k x) ≡ poured (n + 1) ds (set slots k (behind x d))
  unfolding poured
  more ds n x d e = rw (poured, e, get_or-set_same slots k x 0 h, set-set slots k x (behind x d))

  -- four digits, after which nothing of what the entry was is left
  whole : (x a b c d : ℕ) → a < 16 → b < 16 → c < 16 → behind (behind (behind (behind x a) b) c) d ≡ ((a * 16 + b) * 16 + c) * 16 + d
  whole x a b c d ha hb hc = omega arith

  four : (a b c d : ℕ) (ds : List ℕ) → a < 16 → b < 16 → c < 16
      → poured (4 * k) (a ∷ b ∷ c ∷ d ∷ ds) slots ≡ poured (4 * (k + 1)) ds (set slots k (((a * 16 + b) * 16 + c) * 16 + d))
  four a b c d ds ha hb hc =
      let x = get_or slots k 0 in
      let n : 4 * k + 1 + 1 + 1 + 1 ≡ 4 * (k + 1) = omega arith in
      ap (poured (4 * k) (a ∷ b ∷ c ∷ d ∷ ds)) (sym (set-get_or slots k 0))
      ∙ more (b ∷ c ∷ d ∷ ds) (4 * k) x a (omega arith)
      ∙ more (c ∷ d ∷ ds) (4 * k + 1) (behind x a) b (omega arith)
      ∙ more (d ∷ ds) (4 * k + 1 + 1) (behind (behind x a) b) c (omega arith)
      ∙ more ds (4 * k + 1 + 1 + 1) (behind (behind (behind x a) b) c) d (omega arith)
      ∙ rw (n, whole x a b c d ha hb hc)

-- from entry k on, four digits each
poured_fours : (k : ℕ) (ds slots : List ℕ) → Below ds → 4 * k + length ds ≡ 4 * length slots → poured (4 * k) ds slots ≡ take k slots ++ fours ds
unfolding poured fours
poured_fours k [] slots b e = let h : length slots ≤ k = omega arith in rw (append-nil, take_all k slots h)
poured_fours k (p ∷ []) slots b e = absurd (omega arith)
poured_fours k (p ∷ q ∷ []) slots b e = absurd (omega arith)
poured_fours k (p ∷ q ∷ r ∷ []) slots b e = absurd (omega arith)
poured_fours k (p ∷ q ∷ r ∷ s ∷ ds) slots b e =
    let h : k < length slots = omega arith in
    let v = ((p * 16 + q) * 16 + r) * 16 + s in
    four slots k h p q r s ds b.0 b.1.0 b.1.1.0
    ∙ poured_fours (k + 1) ds (set slots k v) b.1.1.1.1 (omega (arith, length-set slots k v))
    ∙ rw (add-one k, take-suc-set slots k v h, append_snoc)

-- ---- a table that is being filled

-- n digits, those before place i, are taken in
pub record Filling (input slots : List ℕ) (n i : ℕ) : Type 0 where
  pub room : n + length (digits (drop i input)) ≡ 4 * length slots
  pub rest : poured n (digits (drop i input)) slots ≡ fours (digits input)

pub filling_none : (input slots : List ℕ) → length (digits input) ≡ 4 * length slots → Filling input slots 0 0
filling_none input slots h = record { room = omega arith; rest = poured_fours 0 (digits input) slots (digits_below_lem input) (omega arith) }

module _ {input slots : List ℕ} {n i : ℕ} (f : Filling input slots n i) where
  pub space_left : i < length input → is_space (get_or input i 0) ≡ true → Filling input slots n (i + 1)
  space_left h e = let q = space_here input i h e in record { room = rw (← q) f.room; rest = rw (← q) f.rest }

  module _ (h : i < length input) (e : is_space (get_or input i 0) ≡ false) where
    count : length (digits (drop i input)) ≡ suc (length (digits (drop (i + 1) input)))
    count = ap (λ (ds : List ℕ). length ds) (digit_here input i h e)

    pub inside : n / 4 < length slots
    inside = omega (arith, f.room, count)

    pub digit_in : (v : ℕ) → v ≡ behind (get_or slots (n / 4) 0) (digit (small (get_or input i 0))) → Filling input (set slots (n / 4) v) (n + 1) (i + 1)
    unfolding poured
    digit_in v q =
        record {
          room = omega (arith, f.room, count, length-set slots (n / 4) v);
          rest = rw q (sym (ap (λ (ds : List ℕ). poured n ds slots) (digit_here input i h e)) ∙ f.rest);
        }

  pub filled : length input ≤ i → slots ≡ fours (digits input)
  unfolding poured
  filled h = sym (ap (λ (ds : List ℕ). poured n ds slots) (digits_ended input i h)) ∙ f.rest
