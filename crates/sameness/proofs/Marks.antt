-- Redirections and listings, and marks set and cleared, on two nodes that are alike.
use mathlib.Core.Path.{◌≡◌, refl, sym, ap, ◌∙◌}
use mathlib.Core.Bool.{Bool, true, false, cond, not}
use mathlib.Core.List.{List, ◌++◌}
use Prim.Native.Nat.{ℕ, ◌+◌, ◌-◌}
use native.Mathlib.Omega.{arith}
use lib.Dec.{eqb, ltb}
use lib.ListN.{length, drop, length-append, length-drop}
use lib.Seq.{take-append_seam, take-take}
use borrow.Author.Tests.{ltb-true}
use Rattle.tables.specs.Sizes.{slot_count}
use Rattle.tables.specs.Checks.{checked}
use Rattle.answers.specs.Answers.{number}
use Rattle.answers.specs.declared.Answer.TheVariants.{Done}
use Rattle.state.specs.Changes.{with_marks}
use Rattle.state.specs.Outcomes.{answered}
use Rattle.state.specs.Same.{held}
use Rattle.state.specs.declared.Node.{Node}
use Rattle.state.specs.declared.Mark.{Mark}
use Rattle.state.specs.declared.Record.{Record}
use Rattle.state.specs.declared.Move.{Move}
use Rattle.slots.specs.Key.{key_slot}
use Rattle.marks.specs.Marks.{marks_of, marking_at, owner_at, is_own, others, insert, remarked}
use Rattle.marks.specs.MarkChanges.{mark_checks, set_checks, set_mark, unmark_checks, clear_checks, clear_mark}
use Rattle.routing.specs.Replies.{refused, down, at_home, elsewhere, known_epoch, redirected, routed}
use Rattle.listing.specs.Listing as listing
use Rattle.ranges.specs.Ranges.{ranges}
use Rattle.kinds.specs.Kinds.{keeping}
use Rattle.sameness.proofs.Seen.{Seen, seen, Alike, bare, state_of, Reads, record_read, from_seen, reads_alike}
use Rattle.sameness.proofs.Told.{Told, answered_told, checked_told, entry_alike}

marks_read : Reads marks_of
marks_read n = take-take n.marked n.marked n.marks (omega arith)

-- other marks in a node, and in what is seen of one: the array is as long as it was, or as they are
abbrev remarked_seen : (List Mark → List Mark) → Seen → Seen
remarked_seen f s =
    let ms = f s.held.marks in
    record { held = state_of (with_marks ms (length ms) (bare s.held)); ids = s.ids; records = s.records; marks = length ms + (s.marks - length ms) }

remarked_seen_lem : (f : List Mark → List Mark) (n : Node) → remarked_seen f (seen n) ≡ seen (remarked n (f (marks_of n)))
unfolding with_marks
remarked_seen_lem f n =
    λ i. record { held = state_of (with_marks (sym (take-append_seam ms rest) i) (length ms) (bare (held n))); ids = length n.ids; records = length n.records; marks = sym long i }
  where
    ms : List Mark
    ms = f (marks_of n)

    rest : List Mark
    rest = drop (length ms) n.marks

    long : length (ms ++ rest) ≡ length ms + (length n.marks - length ms)
    long = length-append ms rest ∙ ap (λ (k : ℕ). length ms + k) (length-drop (length ms) n.marks)

-- a redirection reads the marks, and the record of an owner in the roster
redirected_read : (slots : List ℕ) (s : ℕ) (present asking : Bool) → Reads (λ n. redirected n slots s present asking)
redirected_read slots s present asking n = by (ltb (owner_at slots s) n.size) refl
  where
    owner : ℕ
    owner = owner_at slots s

    by : (t : Bool) → ltb owner n.size ≡ t
        → cond (not t) down (cond (is_own n slots s) (at_home s present (marking_at (bare (held n)) s)) (elsewhere s owner (known_epoch (bare (held n)) owner) asking (marking_at (bare (held n)) s)))
        ≡ cond (not t) down (cond (is_own n slots s) (at_home s present (marking_at n s)) (elsewhere s owner (known_epoch n owner) asking (marking_at n s)))
    by true h = rw (marks_read n, ap (λ (r : Record). r.config) (record_read owner n (ltb-true owner n.size h)))
    by false h = refl

module _ (a b : Node) (e : Alike a b) where
  remarked_alike : (f : List Mark → List Mark) → Alike (remarked a (f (marks_of a))) (remarked b (f (marks_of b)))
  remarked_alike f = from_seen a b e (remarked_seen f) (λ n. seen (remarked n (f (marks_of n)))) (remarked_seen_lem f)

  pub routed_alike : (slots key : List ℕ) (present asking : Bool) → routed a slots key present asking ≡ routed b slots key present asking
  unfolding routed
  routed_alike slots key present asking = λ i. checked (λ x. refused (number x)) (entry_alike a b e (eqb (length slots) slot_count) i) (redirected_alike i)
    where
      redirected_alike : redirected a slots (key_slot key) present asking ≡ redirected b slots (key_slot key) present asking
      redirected_alike = reads_alike a b e (λ n. redirected n slots (key_slot key) present asking) (redirected_read slots (key_slot key) present asking)

  pub ranges_alike : (slots list : List ℕ) → ranges a slots list ≡ ranges b slots list
  unfolding ranges
  ranges_alike slots list = λ i. checked (listing.refused list) (entry_alike a b e (eqb (length slots) slot_count) i) (listing.lists (size_alike i) slots list)
    where
      size_alike : a.size ≡ b.size
      size_alike = reads_alike a b e (λ n. n.size) (λ n. refl)

  pub set_told : (slots reports : List ℕ) (s : ℕ) (move : Move) → Told (keeping slots reports (set_mark a slots s move)) (keeping slots reports (set_mark b slots s move))
  unfolding set_mark
  set_told slots reports s move =
      checked_told (keeping slots reports) (answered a) (answered b) (set_checks a slots s move) (set_checks b slots s move)
      (λ i. entry_alike a b e (eqb (length slots) slot_count) i ++ reads_alike a b e (λ n. mark_checks n slots s move) (λ n. rw (marks_read n)) i) _ _
      (answered_told a b e slots reports) (λ p. answered_told _ _ (remarked_alike (λ ms. insert (record { slot = s; movement = move }) (others s ms))) slots reports Done)

  pub clear_told : (slots reports : List ℕ) (s : ℕ) → Told (keeping slots reports (clear_mark a s)) (keeping slots reports (clear_mark b s))
  unfolding clear_mark
  clear_told slots reports s =
      checked_told (keeping slots reports) (answered a) (answered b) (clear_checks a s) (clear_checks b s)
      (λ i. entry_alike a b e true i ++ reads_alike a b e (λ n. unmark_checks n s) (λ n. rw (marks_read n)) i) _ _
      (answered_told a b e slots reports) (λ p. answered_told _ _ (remarked_alike (others s)) slots reports Done)
