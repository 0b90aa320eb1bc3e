-- `reach::spread` meets its contract: the sweeps that are left give what all give. Assumes nothing.
use native.Mathlib.Omega.{arith}
use native.Mathlib.Nat.{sub-zero}
use Prim.Native.Nat.{◌-◌, ◌≤◌}
use mathlib.Core.Path.{◌≡◌, refl, ◌∙◌}
use borrow.Author.Tests.{not-true}
use lib.ListN.{length}
use Rattle.reach.specs.Reach.{sweeps}
use Rattle.reach.proofs.Laws.{ends_within, sweeps_next, sweeps_stop, sweeps_end, swept_as_long}
use mathlib.Core.Path.{ap}
use mathlib.Core.Bool.{not}
use Rattle.reach.proofs.spread.Given as goal

abbrev pub invariant-loop-turn : goal.invariant-loop-turn
invariant-loop-turn l =
    (l.turn ≤ l.nodes) × (sweeps l.starts l.ends l.joins l.links (l.nodes - l.turn) l.reached ≡ sweeps l.starts l.ends l.joins l.links l.nodes l.initial.reached) × (length l.reached ≡ length l.initial.reached)

abbrev pub decreases-loop-turn : goal.decreases-loop-turn
decreases-loop-turn l = l.nodes - l.turn
