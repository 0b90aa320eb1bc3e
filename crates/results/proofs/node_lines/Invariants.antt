-- `results::node_lines` meets its contract. The invariant: the first i lines stand in the buffer. Assumes nothing.
use native.Mathlib.Omega.{arith}
use Prim.Native.Nat.{◌+◌, ◌*◌, ◌-◌, ◌≤◌}
use mathlib.Core.Path.{◌≡◌, refl}
use lib.ListN.{length}
use Rattle.words.specs.Buffer.{Put}
use Rattle.results.specs.Lines.{node_line, node_lines}
use Rattle.words.proofs.Laws.{then}
use Rattle.results.proofs.LineLaws.{no_nodes, node_turn}
use Rattle.results.proofs.node_lines.Given as goal

abbrev pub invariant-loop-i : goal.invariant-loop-i
invariant-loop-i l =
    (l.i ≤ l.count) × (length l.out ≡ length l.initial.out) × (l.p ≤ l.at + 128 * l.i) × Put l.initial.out l.at (node_lines l.heads l.demands l.i) l.out l.p

abbrev pub decreases-loop-i : goal.decreases-loop-i
decreases-loop-i l = l.count - l.i
