-- What a vote request, an opening and an ack keep of a node.
use mathlib.Core.Path.{◌≡◌, refl}
use Prim.Native.Nat.{ℕ}
use Rattle.state.specs.Node.{master_at}
use Rattle.state.specs.declared.Node.{Node}

-- this node's number, the roster's size, and who of the others is recorded as a master
pub record Keeps (n n' : Node) : Type 0 where
  pub me : n'.me ≡ n.me
  pub size : n'.size ≡ n.size
  pub others : (k : ℕ) → (k ≡ n.me → ⊥) → master_at n' k ≡ master_at n k

pub all_kept : (n : Node) → Keeps n n
all_kept n = record { me = refl; size = refl; others = λ k d. refl }
