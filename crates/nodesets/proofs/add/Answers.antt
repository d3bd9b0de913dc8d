-- `nodesets::add` meets its contract.
use mathlib.Core.Path.{sym, ap, ◌∙◌}
use mathlib.Core.List.{[], ◌∷◌}
use Prim.Native.Nat.{ℕ, ◌^◌}
use native.Mathlib.Nat.{one-mul}
use native.Mathlib.Omega.{arith}
use lib.Bits.{bit_or}
use lib.Dec.{lit<}
use lib.Pow.{shl_exact}
use Rattle.tables.proofs.Words.{add_in, add_out}
use Rattle.nodesets.specs.NodeSets.{set_of}
use Rattle.nodesets.proofs.add.Goals as goal

pub returns-then-v-ge-MOST_NODES : goal.returns-then-v-ge-MOST_NODES
returns-then-v-ge-MOST_NODES c = sym (ap set_of (add_out _ _ c.if-v-ge-MOST_NODES.true))

pub returns : goal.returns
returns c = let a = c.args in
    ap (λ (x : ℕ). set_of (bit_or a.set.word x ∷ [])) (shl_exact 1 a.v 64 (lit< tt) (omega arith) ∙ one-mul (2 ^ a.v)) ∙ sym (ap set_of (add_in _ _ c.if-v-ge-MOST_NODES.false))
