-- `sheet::reading::bad_node` meets its contract: what is left to search answers for the whole. Assumes nothing.
use mathlib.Core.Path.{◌≡◌, ap, ◌∙◌}
use Prim.Native.Nat.{ℕ, ◌+◌, ◌-◌, ◌≤◌}
use native.Mathlib.Omega.{arith}
use Rattle.layout.specs.Places.{node_place}
use Rattle.layout.proofs.Laws.{node_within}
use Rattle.fields.specs.Fields.{node_good}
use Rattle.sheet.specs.Read.{first_bad, bad_node}
use Rattle.sheet.proofs.Laws.{search_end, search-bad, search-on}
use mathlib.Core.Bool.{not}
use Rattle.sheet.proofs.reading.bad_node.Given as goal

abbrev pub invariant-loop-i : goal.invariant-loop-i
invariant-loop-i l = (first_bad (node_good l.b l.sheet) 45 (l.l.nodes - l.i) (node_place l.l l.i) ≡ bad_node l.b l.l l.sheet) × (l.i ≤ l.l.nodes)

abbrev pub decreases-loop-i : goal.decreases-loop-i
decreases-loop-i l = l.l.nodes - l.i
