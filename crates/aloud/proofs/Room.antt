-- A listing's lines are short: one of a single slot has at most 60 bytes, one of more slots at most 120.
use mathlib.Core.Path.{◌≡◌, refl, subst}
use mathlib.Core.Bool.{Bool, true, false, cond}
use mathlib.Core.List.{List, [], ◌∷◌, ◌++◌}
use Prim.Native.Nat.{ℕ, suc, ◌+◌, ◌-◌, ◌*◌, ◌≤◌, ◌<◌}
use native.Mathlib.Nat.{add-mul, mul-le-mul_right}
use native.Mathlib.Omega.{arith}
use lib.Dec.{eqb, ltb}
use lib.ListN.{length, length-append}
use borrow.Author.Tests.{eqb-false, ltb-true}
use Rattle.tables.specs.Sizes.{slot_count}
use Rattle.lines.specs.Texts.{ascii}
use Rattle.phrases.proofs.Lengths.{short}
use Rattle.listing.specs.Listing.{Range, listing}
use Rattle.listing.proofs.Fits as fit
use Rattle.aloud.specs.Aloud.{span, owned_line, unowned_line, gap, spoken_from}
use Rattle.aloud.specs.Room.{RoomEnough}

-- ---- a line

-- the numbers in it
abbrev Fits : ℕ → Type 0
Fits n = n ≤ 65536

-- room for one slot, and for all slots of a line
module _ (margin : List ℕ) where
  abbrev room : ℕ
  room = length margin + 60

  line : (first last : ℕ) (one more : List ℕ) → first ≤ last → length one ≤ 60 → length more ≤ 120
      → length margin + length (cond (eqb first last) one more) ≤ span first last * room
  line first last one more h a b = by (eqb first last) refl
    where
      by : (t : Bool) → eqb first last ≡ t → length margin + length (cond t one more) ≤ span first last * room
      by true e = let some : 1 * room ≤ span first last * room = mul-le-mul_right room (omega arith) in omega arith
      by false e =
          let apart : first ≡ last → ⊥ = eqb-false first last e in
          let some : 2 * room ≤ span first last * room = mul-le-mul_right room (omega arith) in
          omega arith

  owned_room : (r : Range) → r.first ≤ r.last → Fits r.last → Fits r.owner → length margin + length (owned_line r) ≤ span r.first r.last * room
  unfolding owned_line ascii
  owned_room r h l o =
      line r.first r.last _ _ h
      (omega (arith, short (ascii "slot %, that is 1 slot, belongs to node %\n") (r.first ∷ r.owner ∷ []) (omega arith, (omega arith, tt))))
      (omega (arith, short (ascii "slots % to %, that is % slots, belong to node %\n") (r.first ∷ r.last ∷ span r.first r.last ∷ r.owner ∷ []) (omega arith, (omega arith, (omega arith, (omega arith, tt))))))

  unowned_room : (first last : ℕ) → first ≤ last → Fits last → length margin + length (unowned_line first last) ≤ span first last * room
  unfolding unowned_line ascii
  unowned_room first last h l =
      line first last _ _ h
      (omega (arith, short (ascii "slot %, that is 1 slot, is unowned\n") (first ∷ []) (omega arith, tt)))
      (omega (arith, short (ascii "slots % to %, that is % slots, are unowned\n") (first ∷ last ∷ span first last ∷ []) (omega arith, (omega arith, (omega arith, tt)))))

  gap_room : (from next : ℕ) → Fits next → length (gap margin from next) ≤ (next - from) * room
  unfolding gap
  gap_room from next h = by (ltb from next) refl
    where
      by : (t : Bool) → ltb from next ≡ t → length (cond t (margin ++ unowned_line from (next - 1)) []) ≤ (next - from) * room
      by true e =
          let l : from < next = ltb-true from next e in
          let same : span from (next - 1) ≡ next - from = omega arith in
          simp length-append (rw (← same) (unowned_room from (next - 1) (omega arith) (omega arith)))
      by false e = omega arith

-- ---- lines from one slot up to another

-- the ranges stand between the two, each behind the one before it
abbrev Orderly : ℕ → ℕ → List Range → Type 0
Orderly next end [] = next ≤ end
Orderly next end (r ∷ rs) = (next ≤ r.first) × (r.first ≤ r.last) × (r.last < end) × Fits r.owner × Orderly (suc r.last) end rs

adds_up : (w a b c n : ℕ) → a + b + c ≤ n → a * w + b * w + c * w ≤ n * w
adds_up w a b c n h = omega (arith, mul-le-mul_right w h, add-mul (a + b) c w, add-mul a b w)

lines_room : (margin : List ℕ) (next : ℕ) (rs : List Range) → Orderly next slot_count rs → length (spoken_from margin next rs) ≤ (slot_count - next) * room margin
unfolding spoken_from
lines_room margin next [] h = gap_room margin next slot_count (omega arith)
lines_room margin next (r ∷ rs) h =
    simp length-append
    (omega (
      arith,
      gap_room margin next r.first (omega (arith, h.1, h.2)),
      owned_room margin r h.1 (omega (arith, h.2)) h.3,
      lines_room margin (suc r.last) rs h.4,
      adds_up (room margin) (r.first - next) (span r.first r.last) (slot_count - suc r.last) (slot_count - next) (omega (arith, h.0, h.1, h.2)),
    ))

-- ---- the ranges of a table

orderly : (entry : ℕ → ℕ) (size end next : ℕ) (rs : List Range) → Fits size → next ≤ end → fit.Fits entry size next end rs → Orderly next end rs
orderly entry size end next [] small h f = h
orderly entry size end next (r ∷ rs) small h f =
    let x = f.0 in
    (x.low, x.filled, x.high, omega (arith, x.in_roster), orderly entry size end (suc r.last) rs small x.high f.1)

pub room_enough : (margin : List ℕ) (size : ℕ) (slots : List ℕ) → RoomEnough margin size slots
room_enough margin size slots e h =
    lines_room margin 0 (listing size slots) (subst (λ (end : ℕ). Orderly 0 end (listing size slots)) e (orderly (fit.entry_at size slots) size (length slots) 0 (listing size slots) h (omega arith) (fit.fits size slots)))
