-- Five questions are enough: each reply ends the lookup, or is one redirection more.
use Prim.Native.Nat.{ℕ, zero, suc, ◌+◌, ◌≤◌}
use mathlib.Core.Path.{◌≡◌, refl, sym, subst}
use mathlib.Core.Bool.{true}
use mathlib.Core.List.{List}
use native.Mathlib.Omega.{arith}
use Rattle.routing.specs.Replies.{Reply}
use Rattle.seats.specs.declared.Seat.{Seat}
use Rattle.calls.specs.declared.Call.{Call}
use Rattle.lookups.specs.Keys.{slot_of}
use Rattle.lookups.specs.Lookups.{at}
use Rattle.lookups.specs.declared.Question.{Question}
use Rattle.lookups.specs.declared.End.{End}
use Rattle.lookups.specs.declared.End.TheVariants.{Refused}
use Rattle.lookups.specs.declared.Stage.{Stage}
use Rattle.lookups.specs.declared.Stage.TheVariants.{Asking, Ended}
use Rattle.lookups.specs.declared.Lookup.{Lookup}
use Rattle.lookups.specs.declared.Turn.{Turn}
use Rattle.cache.specs.Cache.{Map, entry_at, held_epoch, wrong_length}
use Rattle.gateway.specs.Gateway.{Taken, start_checks, started, turn, taken, asked}
use Rattle.gateway.proofs.Turns.{Comes, through, turn_comes}
use Rattle.walks.specs.Walks.{questioned, walked, has_ended, WalkEnds}
use Rattle.walks.proofs.Walks.{ended}

module _ (seats : List Seat) (slots : List ℕ) (call : Call) (size : ℕ) where
  -- after so many questions
  abbrev Done : ℕ → Lookup → Map → Type 0
  Done n l map = has_ended (walked seats slots call size n l map).lookup.stage ≡ true

  -- every lookup that asks, few redirections so far and many questions to go
  abbrev AllDone : ℕ → Type 0
  AllDone n = (l : Lookup) (map : Map) (q : Question) → l.stage ≡ Asking q → q.hops ≤ 4 → 5 ≤ q.hops + n → Done n l map

  done : (n : ℕ) (l : Lookup) (map : Map) (end : End) → l.stage ≡ Ended end → Done n l map
  done n l map end e = subst (λ (t : Taken). has_ended t.lookup.stage ≡ true) (sym (ended seats slots call size n l map end e)) (subst (λ (s : Stage). has_ended s ≡ true) (sym e) refl)

  -- what is left after a reply
  left : (n s held : ℕ) (l : Lookup) (map : Map) (q : Question) (r : Reply) (t : Turn) → AllDone n → 4 ≤ q.hops + n → Comes size s held q r t → Done n (at l t.stage) map
  left n s held l map q r t all h (Comes.ended end why) = done n (at l (Ended end)) map end refl
  left n s held l map q r t all h (Comes.sent peer lt) = all _ map _ refl (omega arith) (omega arith)
  left n s held l map q r t all h (Comes.moves owner epoch m i lt new) = all _ map _ refl (omega arith) (omega arith)

  replied : (n : ℕ) (l : Lookup) (map : Map) (q : Question) (r : Reply) → AllDone n → l.stage ≡ Asking q → 4 ≤ q.hops + n → Done n (taken l map size r).lookup (taken l map size r).map
  unfolding taken
  replied n l map q r all e h =
      let k = slot_of l.key in let held = held_epoch size (entry_at map k) in
      subst (λ (s : Stage). Done n (at l (turn (wrong_length map) size k held s r).stage) (taken l map size r).map) (sym e)
      (left n k held l (taken l map size r).map q r _ all h (turn_comes size k held q (wrong_length map) r))

  all_done : (n : ℕ) → AllDone n
  unfolding walked asked
  all_done zero l map q e few many = absurd (omega arith)
  all_done (suc n) l map q e few many =
      subst (λ (s : Stage). has_ended (walked seats slots call size n (questioned seats slots call size s l map).lookup (questioned seats slots call size s l map).map).lookup.stage ≡ true) (sym e)
      (replied n l map q _ (all_done n) e (omega arith))

pub walk_ends : WalkEnds
unfolding started
walk_ends seats slots call map size household key =
    through (λ (s : Stage). Done seats slots call size 5 (from s) map) (λ (n : ℕ). Ended (Refused n)) (start_checks (wrong_length map) size key) _
    ((λ e. refused 1), ((λ e. refused 3), ((λ e. refused 49), tt))) (λ f. all_done seats slots call size 5 _ map _ refl (omega arith) (omega arith))
  where
    from : Stage → Lookup
    from s = record { household = household; key = key; stage = s }

    refused : (n : ℕ) → Done seats slots call size 5 (from (Ended (Refused n))) map
    refused n = done seats slots call size 5 (from (Ended (Refused n))) map (Refused n) refl
