-- `drawn::draw_node` meets its contract. Assumes nothing.
use Rattle.drawn.specs.Drawn.{draws}
use Rattle.drawn.proofs.Laws.{node-disabled, node-bends, node-copied}
use borrow.Author.Rules.{rules}
use native.Mathlib.Omega.{arith}
use Prim.Native.Nat.{ℕ, suc, ◌+◌, ◌*◌, ◌-◌, ◌≤◌, ◌<◌}
use mathlib.Core.Path.{◌≡◌, refl, sym, ap, ◌∙◌}
use native.Mathlib.Numerals.{add-one}
use lib.ListN.{length, get_or, set, length-set}
use borrow.Author.Rules.{rules}
use mathlib.Core.Bool.{not}
use Rattle.drawn.proofs.draw_node.Goals as goal

pub returns-then-not-is_enabled : goal.returns-then-not-is_enabled
returns-then-not-is_enabled c = node-disabled _ _ _ _ _ _ _ (draws c.args.drawn.now c.args.stats) _ c.is_enabled.result c.is_enabled.ensures (ap not c.if-not-is_enabled.true)

pub returns-then-gives_way : goal.returns-then-gives_way
returns-then-gives_way c = node-bends _ _ _ _ _ _ _ (draws c.args.drawn.now c.args.stats) _ c.in_service.result c.is_enabled.ensures _ c.in_service.ensures c.gives_way.ensures (ap not c.if-not-is_enabled.false) _ c.if-gives_way.true c.bend_node.ensures

pub returns : goal.returns
returns c = node-copied _ _ _ _ _ _ _ (draws c.args.drawn.now c.args.stats) _ c.in_service.result c.is_enabled.ensures _ c.in_service.ensures c.gives_way.ensures (ap not c.if-not-is_enabled.false) c.if-gives_way.false
