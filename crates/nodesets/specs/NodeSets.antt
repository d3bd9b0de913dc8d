-- A set of node numbers as the state holds it, by the definitions of sets over any number of words (tables, Sets).
use Rattle.std.specs.Prelude.{ℕ, Bool, List, [], ◌∷◌, get_or}
use Rattle.tables.specs.Lists.{occurs}
use Rattle.tables.specs.Sets as sets
use Rattle.nodesets.specs.declared.NodeSet.{NodeSet}

-- a set's words, one for 64 nodes, and the set of so many words
abbrev pub word_count : ℕ
word_count = 1

abbrev pub words : NodeSet → List ℕ
words s = s.word ∷ []

abbrev pub set_of : List ℕ → NodeSet
set_of ws = record { word = get_or ws 0 0 }

abbrev pub none : NodeSet
none = record { word = 0 }

abbrev pub has : NodeSet → ℕ → Bool
has s v = sets.has (words s) v

-- with a number more; one that no word has room for changes nothing
abbrev pub added : NodeSet → ℕ → NodeSet
added s v = set_of (sets.add (words s) v)

-- how many are in it: its count of ones
abbrev pub count : NodeSet → ℕ
count s = sets.size (words s)

-- more than half of the whole are in the part, by their counts of ones
abbrev pub majority : NodeSet → NodeSet → Bool
majority whole part = sets.majority (words whole) (words part)

-- every member of the part is one of the whole
abbrev pub within : NodeSet → NodeSet → Bool
within part whole = sets.within (words part) (words whole)

-- the members of both
abbrev pub both : NodeSet → NodeSet → NodeSet
both a b = set_of (sets.both (words a) (words b))

-- no number from n on is in it
abbrev pub below : NodeSet → ℕ → Bool
below s n = sets.below (words s) n

-- the numbers that pass a test
unfoldable pub gathered : (ℕ → Bool) → NodeSet
gathered p = set_of (sets.words_from p 0 word_count)

-- the numbers that stand in a table
abbrev pub among : List ℕ → NodeSet
among entries = gathered (occurs entries)
