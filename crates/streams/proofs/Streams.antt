-- Pieces come to what their bytes come to, and each line to what the node answers to it whole.
use Rattle.std.specs.Prelude.{None, Option, Some}
use mathlib.Core.Path.{◌≡◌, refl, sym, ap, subst, ◌∙◌}
use mathlib.Core.Bool.{Bool, true, false, cond}
use mathlib.Core.List.{List, [], ◌∷◌, ◌++◌, append-nil, append_assoc, flatten}
use Prim.Native.Nat.{ℕ, zero, suc, ◌+◌, ◌≤◌, ◌<◌}
use native.Mathlib.Omega.{arith}
use native.Mathlib.Numerals.{add-one}
use lib.Dec.{eqb, ltb}
use lib.ListN.{length, take, drop, length-drop}
use lib.Seq.{drop-length}
use borrow.Author.Tests.{eqb-true, ltb-true, ltb-false, ne_eqb}
use Rattle.tables.specs.Lists.{first_from, first_byte, newline}
use Rattle.answers.specs.declared.Answer.{Answer}
use Rattle.frames.specs.Frames.{digits_of}
use Rattle.frames.specs.declared.Layout.{Layout}
use Rattle.frames.specs.declared.Layout.TheVariants.{Short, Middle, Long}
use Rattle.frames.proofs.Lengths.{no_frame}
use Rattle.refusals.specs.Refusals.{refusals, frame_refusals}
use Rattle.node.specs.Step.{on_frame}
use Rattle.scraps.specs.Scraps.{room, long, longer, grown, up_to, takes}
use Rattle.scraps.proofs.Lines.{fits, too_many}
use Rattle.feed.specs.Feed.{Station, with_line, on_line, ends, after, feeds}
use Rattle.feed.proofs.Calls as call
use Rattle.streams.specs.Streams.{Heard, following, then, heard, nothing, ended, on_byte, stream, in_calls, in_pieces, CutAnywhere, NoNewline, Fresh, whole, LineByLine}

-- ---- bytes after bytes
onto : (before : List Answer) {g h : Heard} → g ≡ h → following before g ≡ following before h
onto before e = ap (following before) e

assoc : (a b : List Answer) (h : Heard) → following a (following b h) ≡ following (a ++ b) h
assoc a b h = rw append_assoc

pub stream_append : (s : Station) (a b : List ℕ) → stream s (a ++ b) ≡ then (stream s a) (λ t. stream t b)
unfolding stream
stream_append s [] b = refl
stream_append s (x ∷ a) b = onto (on_byte s x).answers (stream_append (on_byte s x).after a b) ∙ assoc (on_byte s x).answers _ _

-- what comes first, in other words
pub then_of : (rest : List ℕ) {g h : Heard} → g ≡ h → then g (λ t. stream t rest) ≡ then h (λ t. stream t rest)
then_of rest e = ap (λ (h : Heard). then h (λ t. stream t rest)) e

-- ---- bytes with no newline
abbrev is_newline : ℕ → ℕ → Bool
is_newline i x = eqb x newline

-- a byte, by whether it is one
abbrev pub by_test : Bool → Station → ℕ → Heard
by_test t s b = cond t (ended s) (nothing (with_line (longer s.line b) s))

abbrev pub continues : Station → List ℕ → Station
continues s bytes = with_line (grown s.line bytes) s

quiet : (i : ℕ) (s : Station) (bs : List ℕ) → first_from is_newline i bs ≡ None → stream s bs ≡ nothing (continues s bs)
unfolding stream grown first_from
quiet i s [] e = refl
quiet i s (b ∷ bs) e = go (eqb b newline) refl e (λ t f. quiet (suc i) t bs f)
  where
    go : (t : Bool) → eqb b newline ≡ t → cond t (Some i) (first_from is_newline (suc i) bs) ≡ None
        → ((u : Station) → first_from is_newline (suc i) bs ≡ None → stream u bs ≡ nothing (continues u bs))
        → then (by_test t s b) (λ u. stream u bs) ≡ nothing (continues s (b ∷ bs))
    go true q f ih = let z : ◌≡◌ {A = ℕ} 0 1 = cc in absurd (omega arith)
    go false q f ih = ih (with_line (longer s.line b) s) f

-- ---- up to the first newline
record Ends (i : ℕ) (bs : List ℕ) (k : ℕ) : Type 0 where
  pub whole : bs ≡ take k bs ++ (newline ∷ drop (suc k) bs)
  pub front : first_from is_newline i (take k bs) ≡ None

ends_from : (i : ℕ) (bs : List ℕ) (k : ℕ) → first_from is_newline i bs ≡ Some k → (j : ℕ) × (k ≡ i + j) × Ends i bs j
unfolding first_from
ends_from i [] k e = let z : ◌≡◌ {A = ℕ} 0 1 = cc in absurd (omega arith)
ends_from i (b ∷ bs) k e = go (eqb b newline) refl e (ends_from (suc i) bs k)
  where
    go : (t : Bool) → eqb b newline ≡ t → cond t (Some i) (first_from is_newline (suc i) bs) ≡ Some k
        → (first_from is_newline (suc i) bs ≡ Some k → (j : ℕ) × (k ≡ suc i + j) × Ends (suc i) bs j)
        → (j : ℕ) × (k ≡ i + j) × Ends i (b ∷ bs) j
    go true q f ih = let z : i ≡ k = cc in (0, omega arith, record { whole = ap (λ (x : ℕ). x ∷ bs) (eqb-true b newline q); front = refl })
    go false q f ih =
        let r = ih f in
        (suc r.0, omega (arith, r.1), record { whole = ap (λ (l : List ℕ). b ∷ l) r.2.whole; front = rw q r.2.front })

ends_at : (bs : List ℕ) (k : ℕ) → first_byte newline bs ≡ Some k → Ends 0 bs k
ends_at bs k e = let r = ends_from 0 bs k e in let z : r.0 ≡ k = omega (arith, r.1) in subst (λ (j : ℕ). Ends 0 bs j) z r.2

-- a line and its newline
pub line_ends : (s : Station) (line rest : List ℕ) → NoNewline line → stream s (line ++ (newline ∷ rest)) ≡ then (ended (continues s line)) (λ t. stream t rest)
unfolding stream
line_ends s line rest q = stream_append s line (newline ∷ rest) ∙ ap (λ (h : Heard). then h (λ t. stream t (newline ∷ rest))) (quiet 0 s line q)

-- ---- one call
one_call : (s : Station) (piece rest : List ℕ) (f : Option ℕ) → first_byte newline piece ≡ f
    → let c = after s (up_to s.line piece f) in stream s (piece ++ rest) ≡ then (heard c) (λ t. stream t (drop c.used piece ++ rest))
one_call s piece rest None e = stream_append s piece rest ∙ then_of rest (quiet 0 s piece e) ∙ rw (drop-length piece)
one_call s piece rest (Some k) e =
    let d = ends_at piece k e in
    ap (λ (l : List ℕ). stream s (l ++ rest)) d.whole
    ∙ ap (stream s) (append_assoc (take k piece) (newline ∷ drop (suc k) piece) rest)
    ∙ line_ends s (take k piece) (drop (suc k) piece ++ rest) d.front
    ∙ rw (add-one k)

a_call : (s : Station) (piece rest : List ℕ) → stream s (piece ++ rest) ≡ then (heard (feeds s piece)) (λ t. stream t (drop (feeds s piece).used piece ++ rest))
unfolding feeds takes
a_call s piece rest = one_call s piece rest (first_byte newline piece) refl

some : (s : Station) (b : ℕ) (bs : List ℕ) → 0 < (feeds s (b ∷ bs)).used
unfolding feeds takes
some s b bs = go (first_byte newline (b ∷ bs))
  where
    go : (f : Option ℕ) → 0 < (after s (up_to s.line (b ∷ bs) f)).used
    go None = omega arith
    go (Some k) = omega arith

-- ---- calls until a piece is used up, and pieces
left : (s : Station) (n : ℕ) (piece : List ℕ) → length piece ≤ suc n → length (drop (feeds s piece).used piece) ≤ n
left s n [] h = omega (arith, length-drop {A = ℕ} (feeds s []).used [])
left s n (b ∷ bs) h = omega (arith, length-drop (feeds s (b ∷ bs)).used (b ∷ bs), some s b bs)

in_calls_lem : (n : ℕ) (s : Station) (piece : List ℕ) → length piece ≤ n → in_calls n s piece ≡ stream s piece
unfolding in_calls stream
in_calls_lem zero s [] h = refl
in_calls_lem zero s (b ∷ bs) h = absurd (omega arith)
in_calls_lem (suc n) s piece h =
    onto (heard (feeds s piece)).answers (in_calls_lem n (feeds s piece).after (drop (feeds s piece).used piece) (left s n piece h))
    ∙ sym (ap (stream s) (sym (append-nil piece)) ∙ a_call s piece [] ∙ rw (append-nil (drop (feeds s piece).used piece)))

in_pieces_lem : (s : Station) (ps : List (List ℕ)) → in_pieces s ps ≡ stream s (flatten ps)
unfolding in_pieces flatten stream
in_pieces_lem s [] = refl
in_pieces_lem s (p ∷ ps) =
    ap (λ (h : Heard). then h (λ t. in_pieces t ps)) (in_calls_lem (suc (length p)) s p (omega arith))
    ∙ onto (stream s p).answers (in_pieces_lem (stream s p).after ps)
    ∙ sym (stream_append s p (flatten ps))

pub cut_anywhere : (s : Station) → CutAnywhere s
cut_anywhere s = record {
  pieces = in_pieces_lem s;
  same = λ ps qs e. in_pieces_lem s ps ∙ ap (stream s) e ∙ sym (in_pieces_lem s qs);
  call = a_call s;
  within = call.within s;
  some = some s;
}

-- ---- line by line

-- no frame is that long
too_long : (s : Station) (line : List ℕ) → room < length line → on_line s.node s.slots s.reports long ≡ whole s line
unfolding on_frame refusals frame_refusals
too_long s line h = rw (no_frame line other)
  where
    other : (x : Layout) → eqb (length line) (digits_of x) ≡ false
    other Short = ne_eqb (length line) 24 (λ e. omega arith)
    other Middle = ne_eqb (length line) 40 (λ e. omega arith)
    other Long = ne_eqb (length line) 4152 (λ e. omega arith)

whole_line : (s : Station) → Fresh s → (line : List ℕ) → ended (continues s line) ≡ heard (ends (whole s line) 1)
whole_line s f line = go (ltb room (length line)) refl
  where
    go : (t : Bool) → ltb room (length line) ≡ t → ended (continues s line) ≡ heard (ends (whole s line) 1)
    go true e = let h = ltb-true room (length line) e in rw (f, too_many [] line (omega arith) (omega arith), too_long s line h)
    go false e = rw (f, fits [] line (omega (arith, ltb-false room (length line) e)))

pub a_line : (s : Station) → Fresh s → (line rest : List ℕ) → NoNewline line → stream s (line ++ (newline ∷ rest)) ≡ then (heard (ends (whole s line) 1)) (λ t. stream t rest)
a_line s f line rest q = line_ends s line rest q ∙ then_of rest (whole_line s f line)

pub line_by_line : (s : Station) → LineByLine s
line_by_line s = record { line = a_line s; kept = quiet 0 s }
