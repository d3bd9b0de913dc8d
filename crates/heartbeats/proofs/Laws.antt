-- What holds of a heartbeat, put together.
use mathlib.Core.Path.{sym}
use mathlib.Core.List.{List}
use Prim.Native.Nat.{ℕ, ◌<◌}
use native.Mathlib.Omega.{arith}
use lib.ListN.{length}
use Rattle.state.specs.declared.Node.{Node}
use Rattle.state.specs.declared.Role.{Role}
use Rattle.soundness.proofs.Facts.{all_records, few_nodes, me_listed}
use Rattle.heartbeats.specs.Heard.{PastChecks, HeartbeatLaws, ReplicaLaws, MasterLaws}
use Rattle.heartbeats.proofs.Frame.{heartbeat_lists, heartbeat_keeps, heartbeat_room, others_kept, replica_role_only, replica_claims_nothing, sender_record, slot_passes_exactly_when, master_current, own_record}
use Rattle.heartbeats.proofs.Sound.{heartbeat_sound}

-- whoever is in the roster has a record
has_record : {n : Node} {sender : ℕ} {role : Role} {config : ℕ} → PastChecks n sender role config → (k : ℕ) → k < n.size → k < length n.records
has_record {n} p k l = omega (arith, l, all_records n p.node_sound, few_nodes n p.node_sound)

pub heartbeat_laws : (n : Node) (slots bitmap : List ℕ) (sender config : ℕ) (role : Role) → HeartbeatLaws n slots bitmap sender config role
heartbeat_laws n slots bitmap sender config role = record {
  lists = λ p. heartbeat_lists n slots bitmap sender config role p.listed (few_nodes n p.node_sound) (all_records n p.node_sound);
  rest = heartbeat_keeps n slots bitmap sender config role;
  room = heartbeat_room n slots bitmap sender config role;
  others = others_kept n slots bitmap sender config role;
  stays_sound = λ p. heartbeat_sound n slots bitmap sender role config p.node_sound p.another p.follows p.within;
}

pub replica_laws : (n : Node) (slots bitmap : List ℕ) (sender config m : ℕ) → ReplicaLaws n slots bitmap sender config m
replica_laws n slots bitmap sender config m = record {
  role_only = replica_role_only n slots bitmap sender config m;
  claims_nothing = replica_claims_nothing n slots bitmap sender config m;
}

pub master_laws : (n : Node) (slots bitmap : List ℕ) (sender config : ℕ) → MasterLaws n slots bitmap sender config
master_laws n slots bitmap sender config = record {
  sender_record = λ p. sender_record n slots bitmap sender config p.another (has_record p sender p.listed);
  slot_passes = slot_passes_exactly_when n slots bitmap sender config;
  current = master_current n slots bitmap sender config;
  own_record = λ p. own_record n slots bitmap sender config (λ e. p.another (sym e)) (has_record p n.me (me_listed n p.node_sound));
}
