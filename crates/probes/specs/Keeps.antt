-- What probes and ticks change, what they leave as it was, and that a sound state stays sound.
use Rattle.std.specs.Prelude.{◌≡◌, true, List, ℕ, ◌<◌}
use Rattle.state.specs.Node.{record_at}
use Rattle.state.specs.declared.Node.{Node}
use Rattle.state.specs.declared.Echo.{Echo}
use Rattle.state.specs.declared.Echo.TheVariants.{Ping}
use Rattle.soundness.specs.Sound.{sound}
use Rattle.failure.specs.Keeps.{Kept, PingsOnly, FlagsOnly, OthersKept}
use Rattle.probes.specs.Probes.{probed, ticked, tick_flag}

-- a probe about s
pub record ProbeLaws (n : Node) (slots : List ℕ) (s : ℕ) (echo : Echo) : Type 0 where
  -- epochs, roles, marks, the election and all else but pings and flags stay, and every record but the subject's
  pub kept : Kept n (probed n slots s echo)
  pub others : OthersKept s n (probed n slots s echo)
  -- a ping sent leaves the flag too
  pub ping : echo ≡ Ping → PingsOnly n (probed n slots s echo)
  -- a sound state stays sound; past check 6 the subject is another node
  pub stays_sound : sound n ≡ true → (s ≡ n.me → ⊥) → sound (probed n slots s echo) ≡ true

-- a tick
pub record TickLaws (n : Node) (slots reports : List ℕ) : Type 0 where
  -- nothing but flags changes
  pub flags : FlagsOnly n (ticked n slots reports)
  -- each node of the roster gets the flag that the rules give it by itself, whatever the order of the nodes
  pub each : sound n ≡ true → (k : ℕ) → k < n.size → (record_at (ticked n slots reports) k).flag ≡ tick_flag n slots reports k
  -- a sound state stays sound
  pub stays_sound : sound n ≡ true → sound (ticked n slots reports) ≡ true
