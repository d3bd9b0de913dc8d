-- A listing's answer by its number, and the list after it.
use Rattle.std.specs.Prelude.{ℕ, List}
use Rattle.answers.specs.Answers.{number}
use Rattle.listing.specs.Listing.{ListAfter}

pub record Numbered : Type 0 where
  pub number : ℕ
  pub list : List ℕ

abbrev pub numbered : ListAfter → Numbered
numbered o = record { number = number o.answer; list = o.list }
