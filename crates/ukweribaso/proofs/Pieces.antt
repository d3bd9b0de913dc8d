-- A piece that is handed on until it is used up: after every call, what is left of it comes to what the whole piece comes to.
use Rattle.std.specs.Prelude.{None, Option, Some}
use mathlib.Core.Path.{◌≡◌, refl, sym, ap, ◌∙◌}
use mathlib.Core.List.{List, [], append-nil}
use Prim.Native.Nat.{ℕ, ◌+◌, ◌-◌, ◌≤◌, ◌<◌}
use native.Mathlib.Omega.{arith}
use lib.ListN.{length, take, drop, length-take, length-drop}
use lib.Seq.{take_all, drop-drop, drop-length}
use Rattle.tables.specs.Lists.{first_byte, newline}
use Rattle.answers.specs.declared.Answer.{Answer}
use Rattle.scraps.specs.Scraps.{part_of, up_to, takes}
use Rattle.scraps.specs.declared.Kept.{Kept}
use Rattle.feed.specs.Feed.{Station, with_line, Called, after, feeds}
use Rattle.feed.proofs.Calls.{within, some}
use Rattle.streams.specs.Streams.{Heard, stream}
use Rattle.streams.proofs.Streams.{cut_anywhere}

-- the piece from a place on
abbrev pub onwards : List ℕ → ℕ → List ℕ
onwards piece from = take (length piece - from) (drop from piece)

all_of_it : (piece : List ℕ) (from : ℕ) → onwards piece from ≡ drop from piece
all_of_it piece from = take_all (length piece - from) (drop from piece) (omega (arith, length-drop from piece))

-- nothing is kept of a line that is answered, and a kept part of no length is nothing
emptied : (s : Station) (piece : List ℕ) (a : Answer) (k : Kept) → k.length ≡ 0 → (feeds s piece).told ≡ Some a → part_of k ≡ (feeds s piece).after.line
unfolding feeds takes part_of
emptied s piece a k q = go (first_byte newline piece)
  where
    go : (f : Option ℕ) → (after s (up_to s.line piece f)).told ≡ Some a → part_of k ≡ (after s (up_to s.line piece f)).after.line
    go None e = let z : ◌≡◌ {A = ℕ} 0 1 = cc in absurd (omega arith)
    go (Some j) e = rw q

-- a call that answers no line has used all there was
to_the_end : (s : Station) (piece : List ℕ) → (feeds s piece).told ≡ None → (feeds s piece).used ≡ length piece
unfolding feeds takes
to_the_end s piece = go (first_byte newline piece)
  where
    go : (f : Option ℕ) → (after s (up_to s.line piece f)).told ≡ None → (after s (up_to s.line piece f)).used ≡ length piece
    go None e = refl
    go (Some j) e = let z : ◌≡◌ {A = ℕ} 0 1 = cc in absurd (omega arith)

-- a call, and what is left
goes_on : (s : Station) (piece : List ℕ) → (stream s piece).after ≡ (stream (feeds s piece).after (drop (feeds s piece).used piece)).after
goes_on s piece =
    ap (λ (l : List ℕ). (stream s l).after) (sym (append-nil piece))
    ∙ ap (λ (h : Heard). h.after) ((cut_anywhere s).call piece [])
    ∙ ap (λ (l : List ℕ). (stream (feeds s piece).after l).after) (append-nil (drop (feeds s piece).used piece))

module _ {x : Called} (s : Station) (piece : List ℕ) (from : ℕ) (e : x ≡ feeds s (onwards piece from)) where
  told : {t : Option Answer} → x.told ≡ t → (feeds s (onwards piece from)).told ≡ t
  told q = ap (λ (y : Called). y.told) (sym e) ∙ q

  -- a call that answered used some of it, and no more than there is
  pub uses : (a : Answer) → x.told ≡ Some a → (0 < x.used) × (x.used ≤ length piece - from)
  uses a q =
      let w = within s (onwards piece from) in
      let n = length-take (length piece - from) (drop from piece) in
      rw e (some s (onwards piece from) a (told q), omega (arith, w, n))

  -- what is left after any call
  left : (stream s (drop from piece)).after ≡ (stream x.after (drop x.used (onwards piece from))).after
  left = ap (λ (l : List ℕ). (stream s l).after) (sym (all_of_it piece from)) ∙ goes_on s (onwards piece from) ∙ rw (← e)

  -- after an answer: a kept part of no length is what it leaves
  pub answered : (a : Answer) → x.told ≡ Some a → (k : Kept) → k.length ≡ 0 → (stream s (drop from piece)).after ≡ (stream (with_line (part_of k) x.after) (drop (from + x.used) piece)).after
  answered a q k z = left ∙ rw (emptied s (onwards piece from) a k z (told q), ← e, all_of_it piece from, drop-drop x.used from piece)

  -- where no line has ended nothing is left
  pub finished : x.told ≡ None → (stream s (drop from piece)).after ≡ x.after
  unfolding stream
  finished q = left ∙ rw (ap (λ (y : Called). y.used) e ∙ to_the_end s (onwards piece from) (told q), drop-length (onwards piece from))

-- a read that gave no byte leaves the station as it is
pub nothing_read : (s : Station) (buf : List ℕ) {got n : ℕ} → got ≡ n → got ≡ 0 → s ≡ (stream s (take n buf)).after
unfolding stream
nothing_read s buf e z = rw (← e, z)
