-- A vote request keeps a sound state sound.
use Rattle.std.specs.Prelude.{Some}
use mathlib.Core.Path.{◌≡◌, refl}
use mathlib.Core.Bool.{true}
use mathlib.Core.List.{List}
use Prim.Native.Nat.{ℕ, ◌≤◌}
use native.Mathlib.Omega.{arith}
use borrow.Author.Tests.{le-leb}
use Rattle.state.specs.Node.{record_at}
use Rattle.state.specs.Changes.{with_vote, with_record, with_records}
use Rattle.state.specs.declared.Node.{Node}
use Rattle.state.specs.declared.Outcome.{Outcome}
use Rattle.soundness.specs.Sound.{sound, own_clear}
use Rattle.soundness.proofs.Facts.{record_is_sound, own_is_clear}
use Rattle.soundness.proofs.Kept.{vote_kept, voted_sound, same_role_sound}
use Rattle.state.specs.Node.{role_at, followed}
use Rattle.votes.specs.Votes.{granted, requested}
use Rattle.votes.proofs.Steps.{request_cases}

-- ---- a vote request; its epoch is at most currentEpoch, which has risen to it

granted_sound : (n : Node) (m epoch : ℕ) → sound n ≡ true → epoch ≤ n.current → sound (granted m epoch n) ≡ true
unfolding granted with_records own_clear
granted_sound n m epoch s l =
    let r = with_vote (Some n.clock) (record_at n m) in
    voted_sound (with_record m r n)
    (same_role_sound n s m r
    (λ h. vote_kept n.size n.clock n.current m (record_at n m) (record_is_sound n s m h) (Some n.clock) (le-leb n.clock n.clock (omega arith)))
    refl (λ e. rw e (own_is_clear n s)))
    epoch l

pub request_sound : (n : Node) (slots bitmap : List ℕ) (candidate epoch config : ℕ) → sound n ≡ true → epoch ≤ n.current → sound (requested n slots bitmap candidate epoch config).node ≡ true
request_sound n slots bitmap candidate epoch config s l =
    request_cases n slots bitmap candidate epoch config (λ (o : Outcome). sound o.node ≡ true) (λ a t. s) (λ p f. granted_sound n (followed (role_at n candidate)) epoch s l)
