-- A table as a list, its entries by their places, counted from 0.
use Rattle.std.specs.Prelude.{ℕ, suc, Bool, true, false, not, cond, List, [], ◌∷◌, eqb, get_or, None, Option, Some}
use Rattle.tables.specs.Checks.{all_of}

-- each of the three, with the first entry's place given
unfoldable pub map_from : {A B : Type 0} → (ℕ → A → B) → ℕ → List A → List B
map_from f i [] = []
map_from f i (x ∷ xs) = f i x ∷ map_from f (suc i) xs

unfoldable pub count_from : {A : Type 0} → (ℕ → A → Bool) → ℕ → List A → ℕ
count_from p i [] = 0
count_from p i (x ∷ xs) = cond (p i x) (suc (count_from p (suc i) xs)) (count_from p (suc i) xs)

unfoldable pub first_from : {A : Type 0} → (ℕ → A → Bool) → ℕ → List A → Option ℕ
first_from p i [] = None
first_from p i (x ∷ xs) = cond (p i x) (Some i) (first_from p (suc i) xs)

-- every entry changed by its place
abbrev pub map_at : {A B : Type 0} → (ℕ → A → B) → List A → List B
map_at f xs = map_from f 0 xs

-- how many entries pass a test of place and entry
abbrev pub count_at : {A : Type 0} → (ℕ → A → Bool) → List A → ℕ
count_at p xs = count_from p 0 xs

-- the lowest place that passes
abbrev pub first_at : {A : Type 0} → (ℕ → A → Bool) → List A → Option ℕ
first_at p xs = first_from p 0 xs

-- of the entries that were such, how many changed: the table before is held against the table after
abbrev pub changed_from : (ℕ → Bool) → List ℕ → List ℕ → ℕ
changed_from such before after = count_at (λ s o. all_of (such o ∷ not (eqb o (get_or after s 0)) ∷ [])) before

-- where a byte first stands
abbrev pub first_byte : ℕ → List ℕ → Option ℕ
first_byte b bytes = first_at (λ (i x : ℕ). eqb x b) bytes

-- the byte that ends a line
abbrev pub newline : ℕ
newline = 0x0a

-- a search found something
abbrev pub is_found : Option ℕ → Bool
is_found None = false
is_found (Some place) = true

-- some entry of the table is that number
abbrev pub occurs : List ℕ → ℕ → Bool
occurs xs k = is_found (first_at (λ place entry. eqb entry k) xs)
