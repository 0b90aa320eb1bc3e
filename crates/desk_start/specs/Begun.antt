-- What a start tells as the caller gets it: six counts. Definitions only.
use Rattle.std.specs.Prelude.{ℕ, List}
use Rattle.held.specs.Held as holding
use Rattle.held_start.specs.Start.{Started}

-- what is told, and what is held after it
pub record Begun : Type 0 where
  pub told : List ℕ
  pub held : holding.Held

unfoldable pub begun_of : Started → Begun
begun_of o = record { told = holding.counts_of o.taken; held = o.held }
