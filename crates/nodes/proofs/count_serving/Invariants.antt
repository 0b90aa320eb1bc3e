-- `nodes::count_serving` meets its contract: after i nodes those in service among them are counted. Assumes nothing.
use mathlib.Core.Path.{◌≡◌, sym, ap, ◌∙◌}
use mathlib.Core.Logic.{⊎_elim}
use Prim.Native.Nat.{◌-◌}
use native.Mathlib.Omega.{arith}
use Rattle.nodes.specs.Nodes.{serving}
use Rattle.nodes.proofs.Reading.{Counted, none_yet, one_more, same}
use Rattle.nodes.proofs.count_serving.Given as goal

abbrev pub invariant-loop-i : goal.invariant-loop-i
invariant-loop-i l = Counted l.sheet l.l l.count l.i

abbrev pub decreases-loop-i : goal.decreases-loop-i
decreases-loop-i l = l.l.nodes - l.i
