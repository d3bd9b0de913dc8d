-- `engines::tell` meets its contract: the numbers are taken from the records, one by one.
use mathlib.Core.Path.{◌≡◌, refl}
use Prim.Native.Nat.{◌+◌}
use native.Mathlib.Omega.{arith}
use lib.ListN.{length}
use Rattle.tables.specs.Sizes.{node_room}
use Rattle.engines.specs.Engines.{config_of, role_number_of}
use Rattle.engines.proofs.Numbers.{taken_none, taken_more, taken_all, taken_behind}
use Rattle.engines.proofs.tell.Goals as goal

pub loop-k-init : goal.loop-k-init
loop-k-init c = (taken_none config_of _ (node_room + 1), taken_none role_number_of _ node_room)

pub loop-k-preserved : goal.loop-k-preserved
loop-k-preserved c =
    let room = (let long : length c.args.outcome.node.records ≡ node_room = let n = c.args.outcome.node in omega arith in long) in
    let t = c.loop-k-test.true in (
      taken_more config_of _ (node_room + 1) room _ _ c.loop-k.invariant.0 t (omega arith) _ refl,
      taken_more role_number_of _ node_room room _ _ c.loop-k.invariant.1 t (omega arith) _ c.role_number.ensures,
    )

pub returns : goal.returns
returns c =
    let room = (let long : length c.args.outcome.node.records ≡ node_room = let n = c.args.outcome.node in omega arith in long) in
    let e : c.loop-k.k ≡ node_room = omega (arith, c.loop-k.invariant.1.within, c.loop-k-test.false) in (
      c.answer_digest.ensures,
      taken_behind config_of _ (node_room + 1) room _ _ c.loop-k.invariant.0 e refl _,
      taken_all role_number_of _ node_room room _ _ c.loop-k.invariant.1 e refl,
    )
