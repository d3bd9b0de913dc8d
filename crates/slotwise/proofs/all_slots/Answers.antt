-- `slotwise::all_slots` meets its contract: each case of a slot is one case of the definition's.
use mathlib.Core.Path.{sym, ◌∙◌}
use Rattle.slotwise.proofs.Turns.{starts, unclaimed, binds, own, rebinds, tells, keeps}
use Rattle.slotwise.proofs.all_slots.Goals as goal
use Rattle.slotwise.proofs.all_slots.Goals.{then-known-config-2, else-known-config-2}

pub loop-s-init : goal.loop-s-init
loop-s-init c = starts

pub loop-s-preserved-then-not-is_claimed : goal.loop-s-preserved-then-not-is_claimed
loop-s-preserved-then-not-is_claimed c = unclaimed c.loop-s.invariant (sym c.is_claimed.ensures ∙ c.if-not-is_claimed.true)

pub loop-s-preserved-then-owner-node : goal.loop-s-preserved-then-owner-node
loop-s-preserved-then-owner-node c = binds c.loop-s.invariant (sym c.is_claimed.ensures ∙ c.if-not-is_claimed.false) c.if-owner-node.true

pub loop-s-preserved-then-owner-sender : goal.loop-s-preserved-then-owner-sender
loop-s-preserved-then-owner-sender c = own c.loop-s.invariant (sym c.is_claimed.ensures ∙ c.if-not-is_claimed.false) c.if-owner-node.false c.if-owner-sender.true

pub loop-s-preserved-then-known-config : goal.loop-s-preserved-then-known-config
loop-s-preserved-then-known-config c =
    rebinds c.loop-s.invariant (sym c.is_claimed.ensures ∙ c.if-not-is_claimed.false) c.if-owner-node.false c.if-owner-sender.false c.config_of-known.ensures c.if-known-config.true

pub loop-s-preserved : goal.loop-s-preserved
loop-s-preserved c =
    let claimed = sym c.is_claimed.ensures ∙ c.if-not-is_claimed.false in
    elim c.if-known-config-2.branch [
      | then-known-config-2 w ↦
          tells c.loop-s.invariant claimed c.if-owner-node.false c.if-owner-sender.false c.config_of-known.ensures (w.stale-is ∙ w.or-stale.ensures) c.if-known-config.false w.if-known-config-2.true
      | else-known-config-2 w ↦
          rw w.stale-is (keeps c.loop-s.invariant claimed c.if-owner-node.false c.if-owner-sender.false c.config_of-known.ensures c.if-known-config.false w.if-known-config-2.false)
    ]
