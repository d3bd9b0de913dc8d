-- `entry::sound` meets its contract: each early answer cites the test that failed.
use borrow.Author.Tests.{le-ltb, lt-leb}
use Rattle.tables.proofs.Checks.{fails}
use Rattle.soundness.specs.Sound.{sound, sound_checks}
use Rattle.entry.proofs.sound.Goals as goal

pub returns-then-not-bounded : goal.returns-then-not-bounded
unfolding sound
returns-then-not-bounded c = fails 1 (sound_checks c.args.node) (cc)

pub returns-then-node : goal.returns-then-node
unfolding sound
returns-then-node c = fails 3 (sound_checks c.args.node) (le-ltb _ _ c.if-node.true)

pub returns-then-node-2 : goal.returns-then-node-2
unfolding sound
returns-then-node-2 c = fails 5 (sound_checks c.args.node) (lt-leb _ _ c.if-node-2.true)
