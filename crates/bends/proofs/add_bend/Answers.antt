-- `bends::add_bend` meets its contract. Assumes nothing.
use Rattle.bends.proofs.Laws.{bend_on, bend_off}
use borrow.Author.Rules.{rules}
use native.Mathlib.Omega.{arith}
use Prim.Native.Nat.{ℕ, suc, ◌+◌, ◌*◌, ◌-◌, ◌≤◌, ◌<◌}
use mathlib.Core.Path.{◌≡◌, refl, sym, ap, ◌∙◌}
use native.Mathlib.Numerals.{add-one}
use lib.ListN.{length, get_or, set, length-set}
use borrow.Author.Rules.{rules}
use Rattle.bends.proofs.add_bend.Goals as goal

pub returns-then-b-clause-matrix : goal.returns-then-b-clause-matrix
returns-then-b-clause-matrix c =
    (bend_on _ _ _ _ _ _ _ _ c.if-b.true c.add_to_diagonal.ensures c.add_to_row.ensures).0

pub returns-then-b-clause-rhs : goal.returns-then-b-clause-rhs
returns-then-b-clause-rhs c =
    (bend_on _ _ _ _ _ _ _ _ c.if-b.true c.add_to_diagonal.ensures c.add_to_row.ensures).1

pub returns-else-b-clause-matrix : goal.returns-else-b-clause-matrix
returns-else-b-clause-matrix c =
    (bend_off c.args.b c.args.elevation c.args.minimum c.args.row c.args.matrix.now c.args.rhs.now c.if-b.false).0

pub returns-else-b-clause-rhs : goal.returns-else-b-clause-rhs
returns-else-b-clause-rhs c =
    (bend_off c.args.b c.args.elevation c.args.minimum c.args.row c.args.matrix.now c.args.rhs.now c.if-b.false).1
