-- `bends::bend_nodes` meets its contract. Assumes nothing.
use Rattle.bends.proofs.Laws.{Bent, none_bent, next_bent, bent_whole}
use borrow.Author.Rules.{rules}
use native.Mathlib.Omega.{arith}
use Prim.Native.Nat.{ℕ, suc, ◌+◌, ◌*◌, ◌-◌, ◌≤◌, ◌<◌}
use mathlib.Core.Path.{◌≡◌, refl, sym, ap, ◌∙◌}
use native.Mathlib.Numerals.{add-one}
use lib.ListN.{length, get_or, set, length-set}
use Rattle.bends.proofs.bend_nodes.Goals as goal

pub loop-i-init : goal.loop-i-init
loop-i-init c = none_bent _ _ _ _ _ _ _

pub bend_node-requires-clause-bending : goal.bend_node-requires-clause-bending
bend_node-requires-clause-bending c = c.requires.bending

pub bend_node-requires-clause-matrix_len : goal.bend_node-requires-clause-matrix_len
bend_node-requires-clause-matrix_len c = (c.loop-i.invariant.m_long ∙ c.requires.matrix_len.0, (omega (arith, c.loop-i.invariant.r_long, c.requires.matrix_len.1), c.loop-i-test.true))

pub loop-i-preserved : goal.loop-i-preserved
loop-i-preserved c = next_bent _ _ _ _ _ _ _ _ _ _ _ _ c.loop-i.invariant c.loop-i-test.true c.bend_node.ensures.matrix c.bend_node.ensures.rhs (omega (arith, c.bend_node.auto)) (omega (arith, c.bend_node.auto))

pub shape_of-matrix : goal.shape_of-matrix
shape_of-matrix c = c.loop-i.invariant.m_long

pub shape_of-rhs : goal.shape_of-rhs
shape_of-rhs c = c.loop-i.invariant.r_long

pub returns-clause-matrix : goal.returns-clause-matrix
returns-clause-matrix c =
    let e : c.loop-i.i ≡ c.args.l.nodes = omega (arith, c.loop-i.invariant.upto, c.loop-i-test.false) in
    (bent_whole _ _ _ _ _ _ _ _ _ _ e c.loop-i.invariant).0

pub returns-clause-rhs : goal.returns-clause-rhs
returns-clause-rhs c =
    let e : c.loop-i.i ≡ c.args.l.nodes = omega (arith, c.loop-i.invariant.upto, c.loop-i-test.false) in
    (bent_whole _ _ _ _ _ _ _ _ _ _ e c.loop-i.invariant).1
