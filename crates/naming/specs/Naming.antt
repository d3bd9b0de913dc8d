-- What a kind names: document 01, "What a frame is answered", the node numbers that its checks 3, 8 and 6 are about.
use Rattle.std.specs.Prelude.{ℕ, Bool, false, [], ◌∷◌, eqb}
use Rattle.tables.specs.Checks.{any_of}
use Rattle.state.specs.declared.Role.TheVariants.{Master, Replica}
use Rattle.frames.specs.declared.Kind.{Kind}
use Rattle.frames.specs.declared.Kind.TheVariants.{Heartbeat, Report, Fail, Request, Ack, Probe, Tick}
use Rattle.naming.specs.declared.Numbers.{Numbers}
use Rattle.naming.specs.declared.Numbers.TheVariants.{Nobody, One, Two}
use Rattle.naming.specs.declared.Naming.{Naming}

abbrev pub naming : Numbers → Numbers → Numbers → Numbers → Naming
naming listed follower others reporter = record { listed = listed; follower = follower; others = others; reporter = reporter }

-- By kind: the numbers that must be in the roster (3), a replica and whom it follows (8), the numbers that may not be this
-- node, and a reporter and its subject (both 6).
abbrev pub named : Kind → Naming
named (Heartbeat sender Master) = naming (One sender) Nobody (One sender) Nobody
named (Heartbeat sender (Replica m)) = naming (Two sender m) (Two sender m) (One sender) Nobody
named (Report reporter subject said) = naming (Two reporter subject) Nobody (Two reporter subject) (Two reporter subject)
named (Fail sender subject) = naming (Two sender subject) Nobody (Two sender subject) Nobody
named (Request candidate) = naming (One candidate) Nobody (One candidate) Nobody
named (Ack voter candidate) = naming (Two voter candidate) Nobody (One voter) Nobody
named (Probe subject echo) = naming (One subject) Nobody (One subject) Nobody
named Tick = naming Nobody Nobody Nobody Nobody

-- one of the numbers passes
abbrev pub some : (ℕ → Bool) → Numbers → Bool
some p Nobody = false
some p (One a) = p a
some p (Two a b) = any_of (p a ∷ p b ∷ [])

-- the two are the same
abbrev pub same : Numbers → Bool
same Nobody = false
same (One a) = false
same (Two a b) = eqb a b
