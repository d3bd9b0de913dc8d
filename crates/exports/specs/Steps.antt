-- One line handed to a node again and again, for callers that time it.
use Rattle.std.specs.Prelude.{ℕ, zero, suc, List}
use Rattle.answers.specs.declared.Answer.TheVariants.{Done}
use Rattle.digests.specs.Digest.{outcome_digest}
use Rattle.node.specs.Step.{on_frame}
use Rattle.state.specs.Outcomes.{answered, Stepped}
use Rattle.state.specs.declared.Node.{Node}

-- before the first line
abbrev pub first : Node → List ℕ → List ℕ → Stepped
first node slots reports = record { outcome = answered node Done; slots = slots; reports = reports }

-- the line once more
abbrev pub once_more : List ℕ → Stepped → Stepped
once_more line s = on_frame s.outcome.node s.slots s.reports line

unfoldable pub again : ℕ → List ℕ → Stepped → Stepped
again zero line s = s
again (suc times) line s = again times line (once_more line s)

pub record Repeated : Type 0 where
  pub digest : ℕ
  pub slots : List ℕ
  pub reports : List ℕ

abbrev pub repeated : Stepped → Repeated
repeated s = record { digest = outcome_digest s.outcome; slots = s.slots; reports = s.reports }
