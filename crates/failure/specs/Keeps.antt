-- Words for what a call of failure detection changes, and what it leaves as it was.
use Rattle.std.specs.Prelude.{◌≡◌, List, ℕ, length, get_or}
use Rattle.state.specs.Node.{record_at}
use Rattle.state.specs.Changes.{with_ping, with_flag, with_records}
use Rattle.state.specs.declared.Node.{Node}
use Rattle.state.specs.declared.Record.{Record}

-- node a became b: nothing but records changed, and each is the old one but for what it takes from the new one
pub record Only (taking : Record → Record → Record) (a b : Node) : Type 0 where
  pub rest : b ≡ with_records b.records a
  pub room : length b.records ≡ length a.records
  pub records : (k : ℕ) → record_at b k ≡ taking (record_at b k) (record_at a k)

-- nothing but pings changed; nothing but flags; nothing but these two
abbrev pub PingsOnly : Node → Node → Type 0
PingsOnly = Only (λ new old. with_ping new.ping old)

abbrev pub FlagsOnly : Node → Node → Type 0
FlagsOnly = Only (λ new old. with_flag new.flag old)

abbrev pub Kept : Node → Node → Type 0
Kept = Only (λ new old. with_ping new.ping (with_flag new.flag old))

-- of the records, none but that of s changed
abbrev pub OthersKept : ℕ → Node → Node → Type 0
OthersKept s a b = (k : ℕ) → (k ≡ s → ⊥) → record_at b k ≡ record_at a k

-- of a table, no entry but that at a place changed
pub record EntriesKept (place : ℕ) (a b : List ℕ) : Type 0 where
  pub long : length b ≡ length a
  pub others : (k : ℕ) → (k ≡ place → ⊥) → get_or b k 0 ≡ get_or a k 0
