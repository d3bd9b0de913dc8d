-- Bytes as they lie in memory: entries two by two.
use mathlib.Core.Path.{◌≡◌, sym, ap, ◌∙◌}
use mathlib.Core.List.{List, ◌∷◌, ◌++◌, append-nil}
use Prim.Native.Nat.{ℕ, suc, ◌+◌, ◌*◌, ◌≤◌, ◌<◌}
use native.Mathlib.Omega.{arith}
use native.Mathlib.Numerals.{add-one}
use lib.ListN.{length, take, drop, get_or, set, length-set, drop_of_length-le}
use lib.Seq.{drop-cons, take_all, take-suc-set, append_snoc}
use Rattle.dumps.specs.Dumps.{pairs}

-- the entry that stands at place i of the bytes
abbrev pub pair_at : List ℕ → ℕ → ℕ
pair_at input i = get_or input i 0 + get_or input (i + 1) 0 * 256

next_pair : (input : List ℕ) (i : ℕ) → i + 1 < length input → pairs (drop i input) ≡ pair_at input i ∷ pairs (drop (i + 2) input)
unfolding pairs
next_pair input i h =
    let e : suc (i + 1) ≡ i + 2 = omega arith in
    let g : i < length input = omega arith in
    rw (drop-cons input i 0 g, ← add-one i, drop-cons input (i + 1) 0 h, e)

-- the entries below s are written
pub record Written (input slots : List ℕ) (s : ℕ) : Type 0 where
  pub room : 2 * length slots ≡ length input
  pub done : pairs input ≡ take s slots ++ pairs (drop (2 * s) input)

module _ {input slots : List ℕ} {s : ℕ} (w : Written input slots s) where
  pub write : (v : ℕ) → s < length slots → v ≡ pair_at input (2 * s) → Written input (set slots s v) (s + 1)
  write v h e =
      let i : 2 * s + 1 < length input = omega (arith, w.room) in
      let g : 2 * s + 2 ≡ 2 * (s + 1) = omega arith in
      record {
        room = ap (λ (n : ℕ). 2 * n) (length-set slots s v) ∙ w.room;
        done =
            w.done
            ∙ ap (λ (rest : List ℕ). take s slots ++ rest) (next_pair input (2 * s) i)
            ∙ rw (← e, g, add-one s, take-suc-set slots s v h, append_snoc);
      }

  pub written_all : length slots ≤ s → slots ≡ pairs input
  unfolding pairs
  written_all h =
      let g : length input ≤ 2 * s = omega (arith, w.room) in
      sym (w.done ∙ rw (drop_of_length-le input g, append-nil, take_all s slots h))
