-- A line as the node is shown it.
use Rattle.std.specs.Prelude.{None}
use mathlib.Core.Path.{◌≡◌, refl, sym, ap, ◌∙◌}
use mathlib.Core.Bool.{Bool, true, false, cond}
use mathlib.Core.List.{List, []}
use Prim.Native.Nat.{ℕ, ◌≤◌}
use native.Mathlib.Omega.{arith}
use lib.Dec.{ltb}
use lib.ListN.{length, take}
use lib.Seq.{take_all}
use borrow.Author.Tests.{ltb-true, ltb-false}
use Rattle.state.specs.Outcomes.{Stepped}
use Rattle.state.specs.declared.Node.{Node}
use Rattle.hexdigits.specs.Hex.{all_digits, byte_at, digit}
use Rattle.frames.specs.Frames.{frame_of}
use Rattle.refusals.specs.Refusals.{refusals, frame_refusals}
use Rattle.node.specs.Step.{on_frame}
use Rattle.scraps.specs.Scraps.{room, Line, short, long, part_of, grown}
use Rattle.scraps.specs.declared.Kept.{Kept}
use Rattle.scraps.proofs.Lines.{fits, too_many}
use Rattle.feed.specs.Feed.{on_line}

-- an empty line is no frame
pub empty_line : frame_of [] ≡ None
unfolding frame_of all_digits byte_at digit
empty_line = refl

-- how many characters are shown: none of a line that is too long
abbrev pub shown_of : ℕ → ℕ
shown_of m = cond (ltb room m) 0 m

pub shown_le : (m : ℕ) → shown_of m ≤ room
shown_le m = go (ltb room m) refl
  where
    go : (t : Bool) → ltb room m ≡ t → cond t 0 m ≤ room
    go true e = omega arith
    go false e = ltb-false room m e

pub shown_within : (m : ℕ) → shown_of m ≤ m
shown_within m = go (ltb room m)
  where
    go : (t : Bool) → cond t 0 m ≤ m
    go true = omega arith
    go false = omega arith

-- nothing was kept: the line is what came, if that is not too much
pub alone : (line : List ℕ) → grown (short []) line ≡ cond (ltb room (length line)) long (short (take (length line) line))
alone line = go (ltb room (length line)) refl
  where
    go : (t : Bool) → ltb room (length line) ≡ t → grown (short []) line ≡ cond t long (short (take (length line) line))
    go true e = too_many [] line (omega arith) (omega (arith, ltb-true room (length line) e))
    go false e = fits [] line (omega (arith, ltb-false room (length line) e)) ∙ ap short (sym (take_all (length line) line (omega arith)))

module _ (n : Node) (slots reports : List ℕ) where
  -- an empty line is answered as one that is too long: 2, after 1 and 7
  pub empty_is_long : on_frame n slots reports [] ≡ on_line n slots reports long
  unfolding on_frame refusals frame_refusals
  empty_is_long = rw empty_line

  pub shown : (m : ℕ) (line : List ℕ) → on_frame n slots reports (take (shown_of m) line) ≡ on_line n slots reports (cond (ltb room m) long (short (take m line)))
  shown m line = go (ltb room m)
    where
      go : (t : Bool) → on_frame n slots reports (take (cond t 0 m) line) ≡ on_line n slots reports (cond t long (short (take m line)))
      go true = empty_is_long
      go false = refl

  -- nothing was kept before it
  pub whole : (k : Kept) (line : List ℕ) (m : ℕ) {x : Stepped} → k.length ≡ 0 → m ≡ shown_of (length line) → x ≡ on_frame n slots reports (take m line) → x ≡ on_line n slots reports (grown (part_of k) line)
  unfolding part_of
  whole k line m e q f = f ∙ rw q (shown (length line) line ∙ ap (on_line n slots reports) (sym (alone line)) ∙ rw e)

  -- its first part was kept
  pub begun : (k : Kept) (line : Line) (m : ℕ) {x : Stepped} → part_of k ≡ line → m ≡ shown_of k.length → x ≡ on_frame n slots reports (take m k.bytes) → x ≡ on_line n slots reports line
  unfolding part_of
  begun k line m e q f = f ∙ rw q (shown k.length k.bytes ∙ ap (on_line n slots reports) e)
