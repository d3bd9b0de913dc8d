-- An opening keeps a sound state sound.
use mathlib.Core.Path.{◌≡◌, refl}
use mathlib.Core.Bool.{true, false}
use mathlib.Core.List.{List}
use Prim.Native.Nat.{ℕ, ◌<◌}
use native.Mathlib.Omega.{arith}
use lib.Dec.{leb, lit<}
use borrow.Author.Tests.{lt-ltb, leb-false}
use Rattle.tables.specs.Sizes.{node_room, top}
use Rattle.state.specs.Node.{record_at, role_at, is_master, followed}
use Rattle.state.specs.Changes.{with_clock}
use Rattle.state.specs.declared.Node.{Node}
use Rattle.state.specs.declared.Role.{Role}
use Rattle.state.specs.declared.Role.TheVariants.{Master, Replica}
use Rattle.state.specs.declared.Outcome.{Outcome}
use Rattle.soundness.specs.Sound.{sound}
use Rattle.soundness.proofs.Facts.{few_nodes, me_listed, followed_listed}
use Rattle.soundness.proofs.Kept.{clock_sound, opening_sound}
use Rattle.openings.specs.Openings.{opening, opens}
use Rattle.openings.proofs.Steps.{Arrives, open_cases}

pub arrived_sound : (n : Node) (slots : List ℕ) (time : ℕ) → Arrives n slots time → sound (with_clock time n) ≡ true
arrived_sound n slots time w = clock_sound n w.sounds time w.onward w.bounded

-- the node that this one follows has a record
pub followed_within : (n : Node) → sound n ≡ true → followed (record_at n n.me).role < node_room
followed_within n s = by (record_at n n.me).role refl
  where
    by : (r : Role) → (record_at n n.me).role ≡ r → followed r < node_room
    by Master e = lit< tt
    by (Replica m) e = omega (arith, (followed_listed n s n.me m (me_listed n s) e).0, few_nodes n s)

replica_opening : (n : Node) (slots : List ℕ) → sound n ≡ true → is_master (role_at n n.me) ≡ false → leb top n.current ≡ false → sound (opening n slots) ≡ true
unfolding opening
replica_opening n slots s r l = opening_sound n s slots (rw (lt-ltb n.me n.size (me_listed n s)) at r) (leb-false top n.current l)

pub open_sound : (n : Node) (slots : List ℕ) (time : ℕ) → sound n ≡ true → sound (opens n slots time).node ≡ true
unfolding with_clock
open_sound n slots time s =
    open_cases n slots time (λ (o : Outcome). sound o.node ≡ true) (λ a t. s) (λ w a t. arrived_sound n slots time w)
    (λ w p. replica_opening (with_clock time n) slots (arrived_sound n slots time w) (p 24) (p 9))
