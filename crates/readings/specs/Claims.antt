-- A claim's answer in one number, and the slot table after it.
use Rattle.std.specs.Prelude.{ℕ, List}
use Rattle.ownership.specs.Claim.{Claimed}
use Rattle.digests.specs.Digest.{digest}

pub record Digested : Type 0 where
  pub digest : ℕ
  pub slots : List ℕ

abbrev pub digested : Claimed → Digested
digested d = record { digest = digest d.tally; slots = d.slots }
