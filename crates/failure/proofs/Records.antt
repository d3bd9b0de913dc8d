-- A record written where there is none, or as it was, changes nothing.
use mathlib.Core.Path.{◌≡◌, ap}
use mathlib.Core.List.{List}
use Prim.Native.Nat.{ℕ, ◌≤◌}
use lib.ListN.{length}
use lib.Seq.{set_out, set-get_or}
use Rattle.state.specs.Node.{blank, record_at}
use Rattle.state.specs.Changes.{with_record, with_records}
use Rattle.state.specs.declared.Node.{Node}
use Rattle.state.specs.declared.Record.{Record}

pub record_out : (n : Node) (k : ℕ) (x : Record) → length n.records ≤ k → with_record k x n ≡ n
unfolding with_records
record_out n k x l = ap (λ (xs : List Record). with_records xs n) (set_out n.records k x l)

pub record_back : (n : Node) (k : ℕ) → with_record k (record_at n k) n ≡ n
unfolding with_records
record_back n k = ap (λ (xs : List Record). with_records xs n) (set-get_or n.records k blank)
