-- What holds of probes and of ticks, put together.
use mathlib.Core.Path.{sym, subst}
use mathlib.Core.List.{List}
use Prim.Native.Nat.{ℕ}
use native.Mathlib.Omega.{arith}
use Rattle.state.specs.declared.Node.{Node}
use Rattle.state.specs.declared.Echo.{Echo}
use Rattle.soundness.proofs.Facts.{all_records, few_nodes}
use Rattle.failure.specs.Keeps.{PingsOnly}
use Rattle.probes.specs.Probes.{probed}
use Rattle.probes.specs.Keeps.{ProbeLaws, TickLaws}
use Rattle.probes.proofs.Keeps.{probed_kept, probed_others, pinged, ticked_flags}
use Rattle.probes.proofs.Ticks.{tick_each}
use Rattle.probes.proofs.Sound.{probed_sound, ticked_sound}

pub probe_laws : (n : Node) (slots : List ℕ) (s : ℕ) (echo : Echo) → ProbeLaws n slots s echo
probe_laws n slots s echo = record {
  kept = probed_kept n slots s echo;
  others = probed_others n slots s echo;
  ping = λ e. subst (λ (x : Echo). PingsOnly n (probed n slots s x)) (sym e) (pinged n slots s);
  stays_sound = λ h. probed_sound n h slots s echo;
}

pub tick_laws : (n : Node) (slots reports : List ℕ) → TickLaws n slots reports
tick_laws n slots reports = record {
  flags = ticked_flags n slots reports;
  each = λ h k l. tick_each n slots reports k l (omega (arith, l, all_records n h, few_nodes n h));
  stays_sound = λ h. ticked_sound n h slots reports;
}
