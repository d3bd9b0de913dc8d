-- Probes and ticks keep a sound state sound. A probe is never about this node itself (refusal 6).
use Rattle.std.specs.Prelude.{None, Option, Some}
use mathlib.Core.Path.{◌≡◌, refl}
use mathlib.Core.Bool.{Bool, true, false, cond, not}
use mathlib.Core.List.{List, [], ◌∷◌}
use Prim.Native.Nat.{ℕ}
use native.Mathlib.Omega.{arith}
use lib.Dec.{eqb}
use borrow.Author.Tests.{le-leb, eqb-false, not-true}
use Rattle.tables.proofs.Checks.{part}
use Rattle.tables.proofs.Below.{in_turn_keeps}
use Rattle.state.specs.Node.{record_at, is_clear, voting_masters}
use Rattle.state.specs.Changes.{with_flag}
use Rattle.state.specs.declared.Node.{Node}
use Rattle.state.specs.declared.Role.{Role}
use Rattle.state.specs.declared.Flag.{Flag}
use Rattle.state.specs.declared.Flag.TheVariants.{Clear, Pfail, Fail}
use Rattle.state.specs.declared.Echo.{Echo}
use Rattle.state.specs.declared.Echo.TheVariants.{Ping, Pong}
use Rattle.soundness.specs.Sound.{sound, moment_sound, flag_sound}
use Rattle.soundness.proofs.Facts.{record_is_sound, ping_is_sound, flag_is_sound}
use Rattle.soundness.proofs.Kept.{ping_kept, flag_kept, other_sound}
use Rattle.failure.specs.Failure.{looked_at}
use Rattle.failure.proofs.Records.{record_back}
use Rattle.failure.proofs.Sound.{flagged_sound, looked_sound}
use Rattle.probes.specs.Probes.{started, recovered, pong_flag, after_probe, probed, overdue, unanswered, flag_if_unanswered, suspected, all_suspected, all_looked_at, ticked}

started_sound : (clock : ℕ) (x : Option ℕ) → moment_sound clock x ≡ true → moment_sound clock (started clock x) ≡ true
started_sound clock None h = le-leb clock clock (omega arith)
started_sound clock (Some t) h = h

cleared : (clock : ℕ) (t : Bool) (f : Flag) → flag_sound clock f ≡ true → flag_sound clock (cond t Clear f) ≡ true
cleared clock true f h = refl
cleared clock false f h = h

pong_sound : (n : Node) (slots : List ℕ) (s : ℕ) (role : Role) (x : Flag) → flag_sound n.clock x ≡ true → flag_sound n.clock (pong_flag n slots s role x) ≡ true
unfolding pong_flag
pong_sound n slots s role Clear h = refl
pong_sound n slots s role Pfail h = refl
pong_sound n slots s role (Fail t) h = cleared n.clock (recovered n slots s role t) (Fail t) h

module _ (n : Node) (h : sound n ≡ true) where
  pub probed_sound : (slots : List ℕ) (s : ℕ) (echo : Echo) → (s ≡ n.me → ⊥) → sound (probed n slots s echo) ≡ true
  unfolding probed after_probe
  probed_sound slots s Ping d = other_sound n h s _ (λ l. ping_kept n.size n.clock n.current s (record_at n s) (record_is_sound n h s l) (started n.clock (record_at n s).ping) (started_sound n.clock (record_at n s).ping (ping_is_sound n h s l))) d
  probed_sound slots s Pong d =
      let r = record_at n s in
      let f = pong_flag n slots s r.role r.flag in
      other_sound n h s _ (λ l. ping_kept n.size n.clock n.current s (with_flag f r) (flag_kept n.size n.clock n.current s r (record_is_sound n h s l) f (pong_sound n slots s r.role r.flag (flag_is_sound n h s l))) None refl) d

  unanswered_other : (k : ℕ) → unanswered n k (record_at n k) ≡ true → k ≡ n.me → ⊥
  unfolding unanswered
  unanswered_other k l e =
      let r = record_at n k in
      eqb-false k n.me (not-true (eqb k n.me) (part 0 (not (eqb k n.me) ∷ is_clear r.flag ∷ overdue n.clock n.timeout r.ping ∷ []) l)) e

  by_answer : (k : ℕ) (t : Bool) → unanswered n k (record_at n k) ≡ t → sound (suspected k n) ≡ true
  unfolding suspected flag_if_unanswered
  by_answer k true e = rw e (flagged_sound n h k Pfail (λ l. refl) (unanswered_other k e))
  by_answer k false e = rw (e, record_back n k) h

  pub suspected_sound : (k : ℕ) → sound (suspected k n) ≡ true
  suspected_sound k = by_answer k (unanswered n k (record_at n k)) refl

pub ticked_sound : (n : Node) → sound n ≡ true → (slots reports : List ℕ) → sound (ticked n slots reports) ≡ true
unfolding ticked all_suspected all_looked_at
ticked_sound n h slots reports =
    let P : Node → Type 0 = λ m. sound m ≡ true in
    let m = all_suspected n in
    let voters = voting_masters n slots in
    in_turn_keeps P (looked_at voters reports) m.size m (λ k x l g. looked_sound x g voters reports k) (in_turn_keeps P suspected n.size n (λ k x l g. suspected_sound x g k) h)
