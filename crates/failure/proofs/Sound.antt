-- A changed flag, and the look at one node, keep a sound state sound.
use mathlib.Core.Path.{◌≡◌, refl}
use mathlib.Core.Bool.{Bool, true, false, cond}
use mathlib.Core.List.{List, [], ◌∷◌}
use Prim.Native.Nat.{ℕ, ◌<◌}
use native.Mathlib.Omega.{arith}
use borrow.Author.Tests.{le-leb}
use Rattle.tables.specs.Checks.{all_of}
use Rattle.tables.proofs.Checks.{part}
use Rattle.nodesets.specs.declared.NodeSet.{NodeSet}
use Rattle.state.specs.Node.{record_at, is_clear, is_pfail}
use Rattle.state.specs.Changes.{with_flag, on_record}
use Rattle.state.specs.declared.Node.{Node}
use Rattle.state.specs.declared.Flag.{Flag}
use Rattle.state.specs.declared.Flag.TheVariants.{Clear, Pfail, Fail}
use Rattle.soundness.specs.Sound.{sound, flag_sound, is_never, own_clear}
use Rattle.soundness.proofs.Facts.{record_is_sound, flag_is_sound, own_is_clear}
use Rattle.soundness.proofs.Kept.{flag_kept, other_sound}
use Rattle.failure.specs.Failure.{most_signal, flag_if_signalled, looked_at}
use Rattle.failure.proofs.Keeps.{looked_alone}

-- FAIL from now on
pub now_sound : (clock : ℕ) → flag_sound clock (Fail clock) ≡ true
now_sound clock = le-leb clock clock (omega arith)

either_sound : (clock : ℕ) (t : Bool) (f : Flag) → flag_sound clock f ≡ true → flag_sound clock (cond t (Fail clock) f) ≡ true
either_sound clock true f h = now_sound clock
either_sound clock false f h = h

clash : (f : Flag) → is_clear f ≡ true → is_pfail f ≡ true → ⊥
clash Clear a b = let z : ◌≡◌ {A = ℕ} 0 1 = cc in omega arith
clash Pfail a b = let z : ◌≡◌ {A = ℕ} 0 1 = cc in omega arith
clash (Fail t) a b = let z : ◌≡◌ {A = ℕ} 0 1 = cc in omega arith

module _ (n : Node) (h : sound n ≡ true) where
  -- another node's flag
  pub flagged_sound : (s : ℕ) (f : Flag) → (s < n.size → flag_sound n.clock f ≡ true) → (s ≡ n.me → ⊥) → sound (on_record s (with_flag f) n) ≡ true
  flagged_sound s f e d = other_sound n h s _ (λ l. flag_kept n.size n.clock n.current s (record_at n s) (record_is_sound n h s l) f (e l)) d

  -- this node is not PFAIL
  own_flag : is_clear (record_at n n.me).flag ≡ true
  unfolding own_clear
  own_flag = let r = record_at n n.me in part 0 (is_clear r.flag ∷ is_never r.ping ∷ []) (own_is_clear n h)

  pfail_other : (s : ℕ) → is_pfail (record_at n s).flag ≡ true → s ≡ n.me → ⊥
  pfail_other s p e = clash (record_at n n.me).flag own_flag (rw e at p)

  module _ (voters : NodeSet) (reports : List ℕ) (s : ℕ) where
    looked_other : (s ≡ n.me → ⊥) → sound (looked_at voters reports s n) ≡ true
    unfolding looked_at flag_if_signalled
    looked_other d =
        let f = (record_at n s).flag in
        flagged_sound s (flag_if_signalled n voters reports s f) (λ l. either_sound n.clock (all_of (is_pfail f ∷ most_signal n voters reports s ∷ [])) f (flag_is_sound n h s l)) d

    by_flag : (t : Bool) → is_pfail (record_at n s).flag ≡ t → sound (looked_at voters reports s n) ≡ true
    by_flag true e = looked_other (pfail_other s e)
    by_flag false e = rw (looked_alone voters reports s n e) h

    pub looked_sound : sound (looked_at voters reports s n) ≡ true
    looked_sound = by_flag (is_pfail (record_at n s).flag) refl
