-- A writer's text, one part after the other.
use mathlib.Core.Path.{◌≡◌, refl, sym, ap, ◌∙◌}
use mathlib.Core.List.{List, [], ◌∷◌, ◌++◌}
use Prim.Native.Nat.{ℕ}
use lib.ListN.{length, length-set}
use Rattle.lines.specs.declared.Writer.{Writer}
use Rattle.lines.specs.Texts.{Text, put, puts}
use Rattle.lines.specs.Writers.{text_of, extended, SameRoom}
use Rattle.lines.proofs.Texts.{puts_append}

-- the buffer, with another text in it
abbrev pub with_text : Writer → Text → Writer
with_text w t = record w { bytes = record w.bytes { now = t.bytes }; end = t.end }

pub extended_none : (w : Writer) → extended w [] ≡ w
unfolding puts
extended_none w = refl

-- two texts that follow each other
pub then : (w : Writer) {u v : Writer} (a b : List ℕ) → u ≡ extended w a → v ≡ extended u b → v ≡ extended w (a ++ b)
then w {u} {v} a b e f = f ∙ ap (λ (x : Writer). extended x b) e ∙ ap (with_text w) (sym (puts_append (text_of w) a b))

-- what is written keeps the buffer's length
puts_room : (t : Text) (l : List ℕ) → length (puts t l).bytes ≡ length t.bytes
unfolding puts
puts_room t [] = refl
puts_room t (b ∷ l) = puts_room (put t b) l ∙ length-set t.bytes t.end b

pub same_room : (w : Writer) (l : List ℕ) {u : Writer} → u ≡ extended w l → SameRoom w u
same_room w l {u} e = ap (λ (x : Writer). length x.bytes.now) e ∙ puts_room (text_of w) l
