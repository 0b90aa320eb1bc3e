-- What a trial tells as the caller gets it: six counts. Definitions only.
use Rattle.std.specs.Prelude.{ℕ, List}
use Rattle.answers.specs.Answers.{Lent}
use Rattle.held.specs.Held as holding
use Rattle.stepping.specs.Taking.{Took}

-- what is told, what is held and what was lent after it
pub record Passed : Type 0 where
  pub told : List ℕ
  pub held : holding.Held
  pub lent : Lent

unfoldable pub passed_of : Took → Passed
passed_of o = record { told = holding.counts_of o.taken; held = o.held; lent = o.lent }
