-- The start of a solve that is taken one trial at a time. Definitions only.
use Rattle.std.specs.Prelude.{ℕ, List, Err, Ok}
use Rattle.refusals.specs.Refusals.{number_of, place_of}
use Rattle.sheet.specs.Read.{read_of, Reading}
use Rattle.entries.specs.Entries.{damping_start, none}
use Rattle.solver.specs.Solve.{start_of}
use Rattle.held.specs.Held.{Held, held_of, more, refusal}
use Rattle.held.specs.declared.Taken.{Taken}

-- what is told, and what is held after it
pub record Started : Type 0 where
  pub taken : Taken
  pub held : Held

unfoldable pub start_read : List ℕ → Held → Reading → Started
start_read s h (Err r) = record { taken = refusal (number_of r) (place_of r); held = h }
start_read s h (Ok l) = record { taken = more none; held = held_of (start_of s l) damping_start (more none) }

unfoldable pub start_held : List ℕ → Held → Started
unfolding start_read
start_held s h = start_read s h (read_of s)
