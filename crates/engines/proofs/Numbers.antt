-- A node in numbers: a replica's role, and lists that a loop takes from the records, place by place.
use mathlib.Core.Path.{◌≡◌, refl, ap, ◌∙◌}
use mathlib.Core.List.{List, [], ◌∷◌, ◌++◌, map, append-nil}
use Prim.Native.Nat.{ℕ, zero, suc, ◌+◌, ◌-◌, ◌%◌, ◌≤◌, ◌<◌}
use native.Mathlib.Omega.{arith}
use lib.ListN.{length, take, drop, get_or, set, replicate, length-set, length-map, length-replicate, get_or-map, drop_of_length-le}
use lib.Seq.{drop-cons, set_at, take_all}
use Rattle.tables.proofs.Lists.{store}
use Rattle.tables.specs.Sizes.{node_room}
use Rattle.state.specs.Node.{blank}
use Rattle.state.specs.declared.Record.{Record}
use Rattle.state.specs.declared.Role.TheVariants.{Replica}
use Rattle.engines.specs.Engines.{role_of}

pub replica_of : (x : ℕ) → (x ≡ 0 → ⊥) → Replica ((x - 1) % 256) ≡ role_of x
replica_of zero h = absurd (h refl)
replica_of (suc m) h = ap (λ (k : ℕ). Replica (k % 256)) (let z : suc m - 1 ≡ m = omega arith in z)

abbrev pub zeros : ℕ → List ℕ
zeros n = replicate n 0

zeros_long : (n : ℕ) → length (zeros n) ≡ n
zeros_long n = length-replicate n 0

-- a list of n numbers, all 0 at first, has the numbers of the first k records
pub record Taken (f : Record → ℕ) (records : List Record) (n : ℕ) (l : List ℕ) (k : ℕ) : Type 0 where
  pub within : k ≤ node_room
  pub long : length l ≡ n
  pub front : l ≡ take k (map f records) ++ drop k (zeros n)

module _ (f : Record → ℕ) (records : List Record) (n : ℕ) where
  pub taken_none : Taken f records n (zeros n) 0
  taken_none = record { within = omega arith; long = zeros_long n; front = refl }

  module _ (room : length records ≡ node_room) where
    all : length (map f records) ≡ node_room
    all = length-map records f ∙ room

    pub taken_more : (l : List ℕ) (k : ℕ) → Taken f records n l k → k < node_room → node_room ≤ n → (x : ℕ) → x ≡ f (get_or records k blank) → Taken f records n (set l k x) (k + 1)
    taken_more l k t h m x e =
        let i : k < length (map f records) = rw all h in
        let j : k < length (zeros n) = rw (zeros_long n) (omega arith) in
        record {
          within = omega arith;
          long = length-set l k x ∙ t.long;
          front = rw (t.front, e, ← get_or-map f records k blank) (store (map f records) (zeros n) k (f blank) i j);
        }

    -- all of them, and nothing behind
    pub taken_all : (l : List ℕ) (k : ℕ) → Taken f records n l k → k ≡ node_room → n ≡ node_room → l ≡ map f records
    taken_all l k t e m =
        let i : length (map f records) ≤ node_room = omega (arith, all) in
        let j : length (zeros n) ≤ node_room = omega (arith, zeros_long n, m) in
        t.front ∙ rw (e, drop_of_length-le (zeros n) j, append-nil, take_all node_room (map f records) i)

    -- or one number more, written last
    pub taken_behind : (l : List ℕ) (k : ℕ) → Taken f records n l k → k ≡ node_room → n ≡ node_room + 1 → (x : ℕ) → set l node_room x ≡ map f records ++ x ∷ []
    taken_behind l k t e m x =
        let i : length (map f records) ≤ node_room = omega (arith, all) in
        let j : node_room < length (zeros n) = omega (arith, zeros_long n, m) in
        let p : length (zeros n) ≤ suc node_room = omega (arith, zeros_long n, m) in
        rw (t.front, e, take_all node_room (map f records) i, drop-cons (zeros n) node_room 0 j, drop_of_length-le (zeros n) p) (set_at (map f records) _ [] x node_room all)
