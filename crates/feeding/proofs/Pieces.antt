-- A stream, call by call: the answers so far, and what the bytes that are left come to.
use mathlib.Core.Path.{◌≡◌, refl, sym, ap, ◌∙◌}
use mathlib.Core.List.{List, [], ◌∷◌, ◌++◌, append-nil, append_assoc, foldl, foldl-append}
use Prim.Native.Nat.{ℕ, ◌+◌, ◌-◌, ◌≤◌, ◌<◌}
use native.Mathlib.Omega.{arith}
use lib.ListN.{length, take, drop, length-drop, drop_of_length-le, take-append-drop}
use lib.Seq.{drop-drop, drop-append-le, length-take-le}
use Rattle.answers.specs.declared.Answer.{Answer}
use Rattle.feed.specs.Feed.{Station, Called, feeds}
use Rattle.streams.specs.Streams.{following, then, answers_of, heard, stream}
use Rattle.streams.proofs.Streams.{cut_anywhere}
use Rattle.feeding.specs.Feeding.{noted}

-- ---- the piece at hand
abbrev part : List ℕ → ℕ → ℕ → List ℕ
part bytes at end = take (end - at) (drop at bytes)

part_length : (bytes : List ℕ) (at end : ℕ) → end ≤ length bytes → length (part bytes at end) ≡ end - at
part_length bytes at end h = length-take-le (end - at) (drop at bytes) (omega (arith, length-drop at bytes))

-- a call uses some of a piece that has any
uses_some : (s : Station) (piece : List ℕ) → 0 < length piece → 0 < (feeds s piece).used
uses_some s [] h = absurd (omega arith)
uses_some s (b ∷ bs) h = (cut_anywhere s).some b bs

-- and goes on within it
pub moved : (s : Station) (bytes : List ℕ) (at end : ℕ) → at < end → end ≤ length bytes → (r : Called) → r ≡ feeds s (part bytes at end) → (0 < r.used) × (at + r.used ≤ end)
moved s bytes at end g h r e =
    let n = part_length bytes at end h in
    rw e (uses_some s (part bytes at end) (omega (arith, n)), omega (arith, n, (cut_anywhere s).within (part bytes at end)))

-- it leaves what the bytes from here on come to as it was
goes_on : (s : Station) (bytes : List ℕ) (at end : ℕ) (r : Called) → r ≡ feeds s (part bytes at end) → stream s (drop at bytes) ≡ then (heard r) (λ t. stream t (drop (at + r.used) bytes))
goes_on s bytes at end r e =
    let piece = part bytes at end in
    let rest = drop (end - at) (drop at bytes) in
    let whole : piece ++ rest ≡ drop at bytes = take-append-drop (end - at) (drop at bytes) in
    let used = (feeds s piece).used in
    let on : drop used piece ++ rest ≡ drop (at + used) bytes = sym (drop-append-le used piece rest ((cut_anywhere s).within piece)) ∙ ap (drop used) whole ∙ drop-drop used at bytes in
    rw e (ap (stream s) (sym whole) ∙ (cut_anywhere s).call piece rest ∙ ap (λ (l : List ℕ). then (heard (feeds s piece)) (λ t. stream t l)) on)

-- ---- what a stream comes to, from any call on
pub record Left (bytes : List ℕ) (start : Station) (notes : ℕ) (here : Station) (at : ℕ) : Type 0 where
  pub answers : List Answer
  pub told : notes ≡ foldl noted 0 answers
  pub comes : stream start bytes ≡ following answers (stream here (drop at bytes))

pub at_first : (bytes : List ℕ) (s : Station) → Left bytes s 0 s 0
at_first bytes s = record { answers = []; told = refl; comes = refl }

module _ {bytes : List ℕ} {start : Station} {notes : ℕ} {here : Station} {at : ℕ} (l : Left bytes start notes here at) where
  -- one call
  pub called : (end : ℕ) (r : Called) → r ≡ feeds here (part bytes at end) → (n : ℕ) → n ≡ foldl noted notes (answers_of r.told) → Left bytes start n r.after (at + r.used)
  called end r e n q = record {
    answers = l.answers ++ answers_of r.told;
    told = q ∙ ap (λ (k : ℕ). foldl noted k (answers_of r.told)) l.told ∙ sym (foldl-append noted 0 l.answers (answers_of r.told));
    comes = l.comes ∙ ap (following l.answers) (goes_on here bytes at end r e) ∙ rw append_assoc;
  }

  -- and nothing is left
  pub finished : length bytes ≤ at → stream start bytes ≡ record { answers = l.answers; after = here }
  unfolding stream
  finished g = l.comes ∙ rw (drop_of_length-le bytes g, append-nil l.answers)
