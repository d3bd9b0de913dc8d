-- The voting masters as the code finds them: of the masters listed, those that are among the table's owners.
use mathlib.Core.Path.{◌≡◌, ap₂, ◌∙◌}
use mathlib.Core.List.{List}
use Prim.Native.Nat.{ℕ}
use Rattle.nodesets.specs.NodeSets.{both, among}
use Rattle.nodesets.specs.declared.NodeSet.{NodeSet}
use Rattle.nodesets.proofs.Gathered.{both_gathered}
use Rattle.state.specs.Node.{master_at, masters, owns, voting_masters}
use Rattle.state.specs.declared.Node.{Node}

pub voting_both : (n : Node) (slots : List ℕ) (all owners voters : NodeSet) → all ≡ masters n → owners ≡ among slots → voters ≡ both all owners → voters ≡ voting_masters n slots
voting_both n slots all owners voters a o v = v ∙ ap₂ both a o ∙ both_gathered (master_at n) (owns slots)
