-- What holds of every run.
use Prim.Native.Nat.{ℕ, ◌+◌, ◌≤◌}
use mathlib.Core.Path.{◌≡◌, refl, ap, ◌∙◌}
use mathlib.Core.Bool.{Bool, false}
use mathlib.Core.List.{List, [], ◌∷◌}
use native.Mathlib.Omega.{arith}
use borrow.Author.Tests.{eq-eqb}
use Rattle.routing.specs.Replies.{Reply}
use Rattle.lookups.specs.Keys.{slot_of}
use Rattle.lookups.specs.declared.Key.{Key}
use Rattle.lookups.specs.declared.Question.{Question}
use Rattle.lookups.specs.declared.End.TheVariants.{Refused}
use Rattle.lookups.specs.declared.Stage.{Stage}
use Rattle.lookups.specs.declared.Stage.TheVariants.{Asking, Ended}
use Rattle.lookups.specs.declared.Turn.{Turn}
use Rattle.cache.specs.Cache.{Map, entry_at, held_epoch, wrong_length}
use Rattle.gateway.specs.Gateway.{start_checks, first_asked, first_stage, turn, started, taken}
use Rattle.isolation.specs.Runs.{Event, Happening, starts, hears, Progress, unstarted, reached, becomes, after}
use Rattle.isolation.specs.Isolation.{just}
use Rattle.isolation.specs.EveryRun.{carried, comes, came_in, asks, asks_now, since_start, questions, NoneOn, EveryRun}
use Rattle.gateway.proofs.Turns.{through, Comes, ended, sent, moves, turn_comes}
use Rattle.isolation.proofs.Runs.{by_events, all_on, leaves_others}

-- ---- household and key

carries_on : (size : ℕ) (map : Map) (h : Progress) (w : Happening) → carried (becomes size map h w) ≡ comes w (carried h)
unfolding started taken
carries_on size map h (starts household key) = refl
carries_on size map unstarted (hears r) = refl
carries_on size map (reached l) (hears r) = refl

carries : (size : ℕ) (map : Map) (i : ℕ) (run : List Event) → carried ((after size map run).lookups i) ≡ came_in i run
unfolding came_in
carries size map i = by_events size map i (λ run p. carried p ≡ came_in i run) refl
    (λ e es t r. rw t (carries_on size (after size map es).map ((after size map es).lookups i) e.what ∙ ap (comes e.what) r))
    (λ e es t r. rw t r)

-- ---- questions

-- a lookup that asks has asked one question more than it followed redirections, at most four of these
abbrev Few : Stage → ℕ → Type 0
Few (Asking q) n = (n ≡ q.hops + 1) × (q.hops ≤ 4)
Few (Ended end) n = n ≤ 5

first_stage_few : (wrong : Bool) (owner size : ℕ) (key : Key) → Few (first_stage wrong owner size key) (asks (first_stage wrong owner size key))
first_stage_few wrong owner size key =
    through (λ (stage : Stage). Few stage (asks stage)) (λ (n : ℕ). Ended (Refused n)) (start_checks wrong size key) (Asking (record { node = first_asked size owner; asking = false; hops = 0 }))
    ((λ e. omega arith), ((λ e. omega arith), ((λ e. omega arith), tt))) (λ f. (refl, omega arith))

comes_few : (size s held n : ℕ) (q : Question) (r : Reply) {t : Turn} → Comes size s held q r t → Few (Asking q) n → Few t.stage (asks t.stage + n)
comes_few size s held n q r (ended end why) f = omega (arith, f.0, f.1)
comes_few size s held n q r (sent peer h) f = (omega (arith, f.0), omega arith)
comes_few size s held n q r (moves owner epoch m i h o) f = (omega (arith, f.0), omega arith)

turn_few : (wrong : Bool) (size s held n : ℕ) (stage : Stage) (r : Reply) → Few stage n → Few (turn wrong size s held stage r).stage (asks (turn wrong size s held stage r).stage + n)
unfolding turn
turn_few wrong size s held n (Asking q) r f = comes_few size s held n q r (turn_comes size s held q wrong r) f
turn_few wrong size s held n (Ended end) r f = omega (arith, f)

abbrev FewOf : Progress → ℕ → Type 0
FewOf unstarted n = n ≤ 5
FewOf (reached l) n = Few l.stage n

becomes_few : (size n : ℕ) (map : Map) (h : Progress) (w : Happening) → FewOf h n → FewOf (becomes size map h w) (since_start w (asks_now (becomes size map h w)) n)
unfolding started taken
becomes_few size n map h (starts household key) f = first_stage_few (wrong_length map) (entry_at map (slot_of key)).owner size key
becomes_few size n map unstarted (hears r) f = omega arith
becomes_few size n map (reached l) (hears r) f = turn_few (wrong_length map) size (slot_of l.key) (held_epoch size (entry_at map (slot_of l.key))) n l.stage r f

all_few : (size : ℕ) (map : Map) (i : ℕ) (run : List Event) → FewOf ((after size map run).lookups i) (questions size map i run)
unfolding after questions
all_few size map i = by_events size map i (λ run p. FewOf p (questions size map i run)) (omega arith)
    (λ e es t f. rw t (becomes_few size (questions size map i es) (after size map es).map ((after size map es).lookups i) e.what f))
    (λ e es t f. rw t f)

few : (h : Progress) (n : ℕ) → FewOf h n → n ≤ 5
few unstarted n f = f
few (reached l) n f = by l.stage f
  where
    by : (stage : Stage) → Few stage n → n ≤ 5
    by (Asking q) f = omega (arith, f.0, f.1)
    by (Ended end) f = f

-- ---- a slot that no lookup is on

untouched : (size : ℕ) (map : Map) (run : List Event) (s : ℕ) → NoneOn s run → entry_at (after size map run).map s ≡ entry_at map s
unfolding after
untouched size map [] s o = refl
untouched size map (e ∷ es) s o =
    leaves_others size (just s) nobody (after size map es).map e.lookup ((after size map es).lookups e.lookup) e.what refl (all_on size (just s) nobody map e.lookup es o.1) s (eq-eqb s s refl)
    ∙ untouched size map es s o.1
  where
    nobody : ℕ → Bool
    nobody i = false

pub every_run : (size : ℕ) (map : Map) (run : List Event) → EveryRun size map run
every_run size map run = record {
  carries = λ i. carries size map i run;
  five = λ i. few ((after size map run).lookups i) (questions size map i run) (all_few size map i run);
  untouched = untouched size map run;
}
