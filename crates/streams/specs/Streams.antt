-- A whole feed, byte by byte and in pieces: document 02, [9]. However the same bytes are cut, they come to the same.
use Rattle.std.specs.Prelude.{◌≡◌, cond, ℕ, zero, suc, ◌≤◌, ◌<◌, eqb, length, drop, None, Option, Some}
use mathlib.Core.List.{List, [], ◌∷◌, ◌++◌, flatten}
use Rattle.tables.specs.Lists.{first_byte, newline}
use Rattle.answers.specs.declared.Answer.{Answer}
use Rattle.state.specs.Outcomes.{Stepped}
use Rattle.node.specs.Step.{on_frame}
use Rattle.scraps.specs.Scraps.{short, longer, grown}
use Rattle.feed.specs.Feed.{Station, with_line, Called, ends, on_line, feeds}

-- ---- what some bytes come to: the answers of the lines that ended in them, the first one first, and what they leave
pub record Heard : Type 0 where
  pub answers : List Answer
  pub after : Station

-- one after the other
abbrev pub following : List Answer → Heard → Heard
following before h = record { answers = before ++ h.answers; after = h.after }

abbrev pub then : Heard → (Station → Heard) → Heard
then h f = following h.answers (f h.after)

-- what a call comes to
abbrev pub answers_of : Option Answer → List Answer
answers_of None = []
answers_of (Some a) = a ∷ []

abbrev pub heard : Called → Heard
heard c = record { answers = answers_of c.told; after = c.after }

abbrev pub nothing : Station → Heard
nothing s = record { answers = []; after = s }

-- ---- the whole feed: a newline ends the line, which is answered; any other byte makes it longer
abbrev pub ended : Station → Heard
ended s = heard (ends (on_line s.node s.slots s.reports s.line) 1)

abbrev pub on_byte : Station → ℕ → Heard
on_byte s b = cond (eqb b newline) (ended s) (nothing (with_line (longer s.line b) s))

unfoldable pub stream : Station → List ℕ → Heard
stream s [] = nothing s
stream s (b ∷ bs) = then (on_byte s b) (λ t. stream t bs)

-- ---- the same in pieces

-- so many calls, each with what the last one left of the piece
unfoldable pub in_calls : ℕ → Station → List ℕ → Heard
in_calls zero s piece = nothing s
in_calls (suc n) s piece = then (heard (feeds s piece)) (λ t. in_calls n t (drop (feeds s piece).used piece))

-- piece after piece, each handed in again until it is used up. A call uses some of what there is, so that as many calls as the
-- piece has bytes are enough; one more, with nothing left, changes nothing.
unfoldable pub in_pieces : Station → List (List ℕ) → Heard
in_pieces s [] = nothing s
in_pieces s (p ∷ ps) = then (in_calls (suc (length p)) s p) (λ t. in_pieces t ps)

pub record CutAnywhere (s : Station) : Type 0 where
  -- pieces come to what their bytes come to
  pub pieces : (ps : List (List ℕ)) → in_pieces s ps ≡ stream s (flatten ps)
  -- so that the same bytes, however they are cut, give the same answers, tables, node and line
  pub same : (ps qs : List (List ℕ)) → flatten ps ≡ flatten qs → in_pieces s ps ≡ in_pieces s qs
  -- each call by itself leaves what the feed comes to as it was, whatever follows
  pub call : (piece rest : List ℕ) → stream s (piece ++ rest) ≡ then (heard (feeds s piece)) (λ t. stream t (drop (feeds s piece).used piece ++ rest))
  -- a call uses no more than there is, and some of what there is
  pub within : (piece : List ℕ) → (feeds s piece).used ≤ length piece
  pub some : (b : ℕ) (bs : List ℕ) → 0 < (feeds s (b ∷ bs)).used

-- ---- line by line

abbrev pub NoNewline : List ℕ → Type 0
NoNewline bytes = first_byte newline bytes ≡ None

-- where a line begins
abbrev pub Fresh : Station → Type 0
Fresh s = s.line ≡ short []

-- what the node answers to a line that it is handed whole
abbrev pub whole : Station → List ℕ → Stepped
whole s line = on_frame s.node s.slots s.reports line

pub record LineByLine (s : Station) : Type 0 where
  -- every line is answered as the node answers it whole, however long it is, and the next one begins with nothing kept
  pub line : Fresh s → (line rest : List ℕ) → NoNewline line → stream s (line ++ (newline ∷ rest)) ≡ then (heard (ends (whole s line) 1)) (λ t. stream t rest)
  -- bytes with no newline are kept, and nothing is looked at
  pub kept : (bytes : List ℕ) → NoNewline bytes → stream s bytes ≡ nothing (with_line (grown s.line bytes) s)
