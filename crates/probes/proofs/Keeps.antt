-- What probes and ticks leave as it was.
use mathlib.Core.Path.{◌≡◌, refl}
use mathlib.Core.List.{List}
use Prim.Native.Nat.{ℕ, ◌≤◌}
use lib.ListN.{length}
use Rattle.tables.specs.Below.{in_turn}
use Rattle.tables.proofs.Below.{in_turn_keeps}
use Rattle.nodesets.specs.declared.NodeSet.{NodeSet}
use Rattle.state.specs.Node.{record_at, voting_masters}
use Rattle.state.specs.Changes.{with_flag}
use Rattle.state.specs.declared.Node.{Node}
use Rattle.state.specs.declared.Echo.{Echo}
use Rattle.state.specs.declared.Echo.TheVariants.{Ping, Pong}
use Rattle.failure.specs.Failure.{looked_at}
use Rattle.failure.specs.Keeps.{Kept, PingsOnly, FlagsOnly, OthersKept}
use Rattle.failure.proofs.Records.{record_out}
use Rattle.failure.proofs.Keeps.{only_one, others_one, flag_set, flags_same, flags_then, flags_kept, looked_flags}
use Rattle.probes.specs.Probes.{after_probe, probed, flag_if_unanswered, suspected, all_suspected, all_looked_at, ticked}

-- ---- one node

pub probed_kept : (n : Node) (slots : List ℕ) (s : ℕ) (echo : Echo) → Kept n (probed n slots s echo)
unfolding probed after_probe
probed_kept n slots s Ping = only_one _ (λ r. refl) n s _ refl
probed_kept n slots s Pong = only_one _ (λ r. refl) n s _ refl

pub pinged : (n : Node) (slots : List ℕ) (s : ℕ) → PingsOnly n (probed n slots s Ping)
unfolding probed after_probe
pinged n slots s = only_one _ (λ r. refl) n s _ refl

pub probed_others : (n : Node) (slots : List ℕ) (s : ℕ) (echo : Echo) → OthersKept s n (probed n slots s echo)
unfolding probed
probed_others n slots s echo = others_one n s (after_probe n slots s echo (record_at n s))

pub suspected_flags : (k : ℕ) (n : Node) → FlagsOnly n (suspected k n)
unfolding suspected
suspected_flags k n = flag_set n k (flag_if_unanswered n k (record_at n k))

pub suspected_others : (k : ℕ) (n : Node) → OthersKept k n (suspected k n)
unfolding suspected
suspected_others k n = others_one n k (with_flag (flag_if_unanswered n k (record_at n k)) (record_at n k))

pub suspected_out : (k : ℕ) (n : Node) → length n.records ≤ k → suspected k n ≡ n
unfolding suspected
suspected_out k n l = record_out n k (with_flag (flag_if_unanswered n k (record_at n k)) (record_at n k)) l

-- ---- one node after another

pub turns : (f : ℕ → Node → Node) → ((k : ℕ) (x : Node) → FlagsOnly x (f k x)) → (n : Node) (m : ℕ) → FlagsOnly n (in_turn f m n)
turns f flags n m = in_turn_keeps (FlagsOnly n) f m n (λ k x l g. flags_then n x (f k x) g (flags k x)) (flags_same n)

pub all_suspected_lem : (n : Node) → FlagsOnly n (all_suspected n)
unfolding all_suspected
all_suspected_lem n = turns suspected suspected_flags n n.size

all_looked : (voters : NodeSet) (reports : List ℕ) (n : Node) → FlagsOnly n (all_looked_at voters reports n)
unfolding all_looked_at
all_looked voters reports n = turns (looked_at voters reports) (looked_flags voters reports) n n.size

pub ticked_flags : (n : Node) (slots reports : List ℕ) → FlagsOnly n (ticked n slots reports)
unfolding ticked
ticked_flags n slots reports =
    let m = all_suspected n in
    let voters = voting_masters n slots in
    flags_then n m (all_looked_at voters reports m) (all_suspected_lem n) (all_looked voters reports m)

pub ticked_kept : (n : Node) (slots reports : List ℕ) → Kept n (ticked n slots reports)
ticked_kept n slots reports = flags_kept n (ticked n slots reports) (ticked_flags n slots reports)
