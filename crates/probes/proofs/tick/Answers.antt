-- `probes::tick` meets its contract.
use mathlib.Core.Path.{◌≡◌, refl, sym, ap, ◌∙◌}
use Prim.Native.Nat.{ℕ, ◌<◌}
use native.Mathlib.Omega.{arith}
use borrow.Author.Tests.{le-ltb}
use Rattle.tables.specs.Sizes.{node_room}
use Rattle.tables.specs.Below.{in_turn}
use Rattle.tables.proofs.Below.{in_turn_more}
use Rattle.nodesets.proofs.Gathered.{at_first, at_last}
use Rattle.state.specs.Node.{record_at, master_at, masters, is_pfail, voting_masters}
use Rattle.state.specs.Changes.{with_records}
use Rattle.state.specs.declared.Record.{Record}
use Rattle.failure.specs.Failure.{looked_at}
use Rattle.probes.specs.Probes.{suspected}
use Rattle.state.proofs.Voting.{voting_both}
use Rattle.failure.proofs.Masters.{gathers}
use Rattle.probes.proofs.Ticks.{master_then, both_loops, room_kept, still, none_more, none_looked}
use Rattle.probes.proofs.tick.Goals as goal

pub loop-k-init : goal.loop-k-init
unfolding in_turn
loop-k-init c = (refl, rw c.none-masters.ensures (at_first (master_at c.args.node)), λ e k l. absurd (omega arith))

pub loop-k-preserved : goal.loop-k-preserved
unfolding suspected with_records
loop-k-preserved c =
    let l = c.loop-k in
    let n = c.args.node in
    let h : l.k < node_room = omega arith in
    let g : l.k < n.size = omega arith in (
      rw (c.with_flag.ensures, c.flag_if_unanswered-flag.ensures, c.from-i.ensures) (ap (suspected l.k) l.invariant.0 ∙ sym (in_turn_more suspected l.k n)),
      rw (c.with_master-masters.ensures, c.from-i.ensures) (gathers (master_at n) l.k l.masters (record_at l.next l.k).role h (master_then n l.next l.k g l.invariant.0) l.invariant.1),
      λ e.
          let p = still l.quiet _ e in
          rw c.from-i.ensures (none_more l.next l.k _ (omega (arith, room_kept n l.next l.k l.invariant.0)) (l.invariant.2 p.1) (ap (λ (r : Record). is_pfail r.flag) c.with_flag.ensures ∙ sym c.is_pfail.ensures ∙ p.0)),
    )

pub returns-then-quiet : goal.returns-then-quiet
returns-then-quiet c =
    let l = c.loop-k in
    let n = c.args.node in
    let slots = c.args.slots.now in
    let reports = c.args.reports.now in
    sym (none_looked (voting_masters n slots) reports l.k l.next (l.invariant.2 c.if-quiet.true))
    ∙ both_loops n l.next slots reports (voting_masters n slots) l.k (omega arith) (omega arith) l.invariant.0 refl

pub loop-s-init : goal.loop-s-init
unfolding in_turn
loop-s-init c = refl

pub loop-s-preserved : goal.loop-s-preserved
unfolding looked_at with_records
loop-s-preserved c =
    let l = c.loop-s in
    let f = looked_at c.both-voters.result c.args.reports.now in
    rw (c.with_flag-in-loop-s.ensures, c.flag_if_signalled.ensures, c.from-i-in-loop-s.ensures) (ap (f l.s) l.invariant ∙ sym (in_turn_more f l.s _))

pub returns : goal.returns
returns c =
    let l = c.loop-k in
    let n = c.args.node in
    let slots = c.args.slots.now in
    let reports = c.args.reports.now in
    let t : c.loop-s.s ≡ l.k = omega arith in
    let all : l.masters ≡ masters n = at_last (master_at n) l.k l.masters (λ k h g. rw (le-ltb k n.size (omega arith))) (omega arith) l.invariant.1 in
    let w : c.both-voters.result ≡ voting_masters n slots = voting_both n slots l.masters _ _ all c.among-owners.ensures c.both-voters.ensures in
    c.loop-s.invariant
    ∙ ap (λ (k : ℕ). in_turn (looked_at c.both-voters.result reports) k l.next) t
    ∙ both_loops n l.next slots reports c.both-voters.result l.k (omega arith) (omega arith) l.invariant.0 w
