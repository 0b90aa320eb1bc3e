-- `drawn::bend_node` meets its contract. Assumes nothing.
use Rattle.drawn.proofs.Laws.{bent_of}
use borrow.Author.Rules.{rules}
use native.Mathlib.Omega.{arith}
use Prim.Native.Nat.{ℕ, suc, ◌+◌, ◌*◌, ◌-◌, ◌≤◌, ◌<◌}
use mathlib.Core.Path.{◌≡◌, refl, sym, ap, ◌∙◌}
use native.Mathlib.Numerals.{add-one}
use lib.ListN.{length, get_or, set, length-set}
use borrow.Author.Rules.{rules}
use Rattle.drawn.proofs.bend_node.Goals as goal

pub returns : goal.returns
returns c = bent_of _ _ _ _ _ _ _ _ _ _ _ _ _ _ c.pressure_range.ensures c.bend_of-b.ensures c.elevation.ensures c.change_of-dq.ensures c.note.ensures
