-- `walks::walk`: what is left to walk, after so many questions, is what there was to walk, and the buffer keeps its length.
use Rattle.std.proofs.Common.{◌≡◌, ◌-◌}
use Rattle.cache.specs.Cache.{map_of}
use Rattle.lines.specs.Writers.{SameRoom}
use Rattle.walks.specs.Walks.{most_questions, walked}
use Rattle.walks.proofs.walk.Given as goal

abbrev pub invariant-loop-asked : goal.invariant-loop-asked
invariant-loop-asked l = record {
  taken : walked l.seats l.slots l.call l.size (most_questions - l._asked) l.lookup (map_of l.map l.epochs) ≡ walked l.seats l.slots l.call l.size most_questions l.initial.lookup (map_of l.initial.map l.initial.epochs);
  same_room : SameRoom l.initial.out l.out;
}
