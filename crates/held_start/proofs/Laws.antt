-- The ways through the start, over plain variables. Assumes nothing.
use Prim.Native.Nat.{ℕ}
use mathlib.Core.Path.{◌≡◌}
use mathlib.Core.List.{List}
use mathlib.Core.Bool.{false}
use lib.ListN.{replicate}
use lib.Ieee.{Float}
use Rattle.refusals.specs.Refusals.{number_of, place_of}
use Rattle.refusals.specs.declared.refusals.Refusal.{Refusal}
use Rattle.sheet.specs.Read.{read_of, Reading}
use Rattle.layout.specs.declared.places.Layout.{Layout}
use Rattle.damping.specs.declared.steps.Damping.{Damping}
use Rattle.state.specs.State.{state}
use Rattle.entries.specs.Entries.{damping_start, none}
use Rattle.solver.specs.Solve.{start_of}
use Rattle.held.specs.Held.{Held, held, marks_out, sums_of, counts_of, held_of, more, refusal}
use Rattle.held.specs.declared.Taken.{Taken}
use Rattle.held_start.specs.Start.{start_read, start_held}
use Rattle.std.specs.Prelude.{Err, Ok}

module _ (s : List ℕ) (was : Held) (reading : Reading) (read : reading ≡ read_of s) where
  pub start_refused : (t : Taken) (r : Refusal) (number place : ℕ) → reading ≡ Err r → number ≡ number_of r → place ≡ place_of r → t ≡ refusal number place
      → record { taken = t; held = was } ≡ start_held s was
  unfolding start_held start_read
  start_refused t r number place e en ep et = rw (← read, e, et, en, ep)

  pub start_good : (l : Layout) (h d f q : List Float) (c : List ℕ) (first : Damping) (m t : Taken) (sums : List Float) (counts : List ℕ)
      → reading ≡ Ok l → state h d f q c (replicate 64 false) ≡ start_of s l → first ≡ damping_start → m ≡ more none → sums ≡ sums_of first m.answer → counts ≡ counts_of m → t ≡ m
      → record { taken = t; held = held h d f q c (replicate 64 0) sums counts } ≡ start_held s was
  unfolding start_held start_read held_of marks_out
  start_good l h d f q c first m t sums counts e es ed em ex en et = rw (← read, e, ← es, ex, en, et, em, ed)
