-- Ranges written to a list, one behind the other: what is written is the list's front, what is left goes behind it.
use mathlib.Core.Path.{◌≡◌, refl, sym, ap, ap₂, ◌∙◌}
use mathlib.Core.List.{List, [], ◌∷◌, ◌++◌, append_assoc}
use Prim.Native.Nat.{ℕ, suc, ◌+◌, ◌-◌, ◌*◌, ◌≤◌, ◌<◌}
use native.Mathlib.Omega.{arith}
use lib.ListN.{length, take, drop, set, get_or, length-append, length-drop, take-append-drop}
use lib.Seq.{sets-eq, length-take-le, take_at, drop_at, drop-drop}
use Rattle.listing.specs.Listing.{Range, range, ranges_from, listing, flat, laid}
use Rattle.listing.specs.Stretches.{alike}
use Rattle.listing.proofs.Stretches.{ahead, inside, one_range, no_range, ended}

-- three stores
pub three : (l : List ℕ) (at a b c : ℕ) → at + 3 ≤ length l → set (set (set l at a) (at + 1) b) (at + 2) c ≡ take at l ++ a ∷ b ∷ c ∷ drop (at + 3) l
three l at a b c h =
    let e : at + 1 ≡ suc at = omega arith in
    let f : at + 2 ≡ suc (suc at) = omega arith in
    rw (e, f) (sets-eq (a ∷ b ∷ c ∷ []) l at h ∙ append_assoc (take at l) (a ∷ b ∷ c ∷ []) (drop (at + 3) l))

-- a list of which the front is written
abbrev pub Written : List ℕ → ℕ → List Range → List ℕ
Written l at rs = take at l ++ laid rs (drop at l)

module _ (r : Range) (rs : List Range) (l : List ℕ) (at : ℕ) (h : at + 3 ≤ length l) where
  abbrev numbers : List ℕ
  numbers = r.first ∷ r.last ∷ r.owner ∷ []

  front : length (take at l ++ numbers) ≡ at + 3
  front = length-append (take at l) numbers ∙ ap (λ (k : ℕ). k + 3) (length-take-le at l (omega arith))

  -- one range more
  pub written : Written l at (r ∷ rs) ≡ Written (take at l ++ r.first ∷ r.last ∷ r.owner ∷ drop (at + 3) l) (at + 3) rs
  unfolding flat
  written =
      let e : at + 3 * suc (length rs) ≡ at + 3 + 3 * length rs = omega arith in
      let after = append_assoc (take at l) numbers (drop (at + 3) l) in
      ap (λ (k : List ℕ). take at l ++ (r.first ∷ r.last ∷ r.owner ∷ (flat rs ++ k))) (drop-drop (3 * suc (length rs)) at l ∙ ap (λ (k : ℕ). drop k l) e ∙ sym (drop-drop (3 * length rs) (at + 3) l))
      ∙ sym (append_assoc (take at l) numbers (laid rs (drop (at + 3) l)))
      ∙ sym (ap₂ (λ (x y : List ℕ). x ++ laid rs y)
      (ap (take (at + 3)) (sym after) ∙ take_at (take at l ++ numbers) (drop (at + 3) l) (at + 3) front)
      (ap (drop (at + 3)) (sym after) ∙ drop_at (take at l ++ numbers) (drop (at + 3) l) (at + 3) front))

  pub same_length : length (take at l ++ r.first ∷ r.last ∷ r.owner ∷ drop (at + 3) l) ≡ length l
  same_length =
      ap length (sym (append_assoc (take at l) numbers (drop (at + 3) l)))
      ∙ length-append (take at l ++ numbers) (drop (at + 3) l)
      ∙ omega (arith, front, length-drop (at + 3) l)

-- ---- a loop that has come to slot s, and in the list to `at`

pub record Going (size : ℕ) (slots was list : List ℕ) (s at : ℕ) : Type 0 where
  pub within : s ≤ length slots
  pub left : at + 3 * length (ranges_from size s (drop s slots)) ≡ 3 * length (listing size slots)
  pub long : length list ≡ length was
  pub front : Written list at (ranges_from size s (drop s slots)) ≡ laid (listing size slots) was

pub begun : (size : ℕ) (slots was : List ℕ) → Going size slots was was 0 0
begun size slots was = record { within = omega arith; left = omega arith; long = refl; front = refl }

module _ {size : ℕ} {slots was list : List ℕ} {s at : ℕ} (g : Going size slots was list s at) where
  pub done : length slots ≤ s → list ≡ laid (listing size slots) was
  unfolding flat
  done h = sym (take-append-drop at list) ∙ ap (Written list at) (sym (ended size slots s h)) ∙ g.front

  -- a stretch that ends before slot e
  module _ {e : ℕ} (h : s < length slots) (ends : e ≡ s + 1 + alike (get_or slots s 0) (drop (s + 1) slots)) where
    pub on : s < e
    on = ahead slots s e h ends

    pub still : e ≤ length slots
    still = inside slots s e h ends

    pub past : size ≤ get_or slots s 0 → Going size slots was list e at
    past o =
        let q = no_range slots s e h ends size o in
        record {
          within = still;
          left = ap (λ (rs : List Range). at + 3 * length rs) (sym q) ∙ g.left;
          long = g.long;
          front = ap (Written list at) (sym q) ∙ g.front;
        }

    module _ (o : get_or slots s 0 < size) (fits : 3 * length (listing size slots) ≤ length was) where
      q : ranges_from size s (drop s slots) ≡ range s (e - 1) (get_or slots s 0) ∷ ranges_from size e (drop e slots)
      q = one_range slots s e h ends size o

      pub room : at + 3 ≤ length list
      room = omega (arith, g.left, g.long, ap length q)

      pub put : (next : List ℕ) → next ≡ take at list ++ s ∷ (e - 1) ∷ get_or slots s 0 ∷ drop (at + 3) list → Going size slots was next e (at + 3)
      put next is =
          record {
            within = still;
            left = omega (arith, g.left, ap length q);
            long = ap length is ∙ same_length (range s (e - 1) (get_or slots s 0)) [] list at room ∙ g.long;
            front =
                ap (λ (l : List ℕ). Written l (at + 3) (ranges_from size e (drop e slots))) is
                ∙ sym (written (range s (e - 1) (get_or slots s 0)) (ranges_from size e (drop e slots)) list at room)
                ∙ ap (Written list at) (sym q)
                ∙ g.front;
          }
