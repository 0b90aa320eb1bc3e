-- `linear::factorization::subtract` meets its contract. The invariant: the rows down to r are less their product with column k. Assumes nothing.
use native.Mathlib.Omega.{arith}
use Prim.Native.Nat.{◌-◌, ◌≤◌}
use mathlib.Core.Path.{◌≡◌, refl}
use Rattle.linear.specs.Matrix.{at}
use Rattle.linear.specs.Factorization.{subtracted}
use Rattle.linear.proofs.FactorTurns.{subtract_none, subtract_next}
use Rattle.linear.proofs.Skips.{subtract_zero}
use lib.ListN.{length, length-set}
use Rattle.linear.proofs.factorization.subtract.Goals as goal

pub returns-then-f : goal.returns-then-f
returns-then-f c =
    let h = c.requires.firm_from c.if-skip.true in
    subtract_zero c.args.n c.args.c c.args.k c.args.a.now h.0 h.1 c.if-f.true

pub loop-r-init : goal.loop-r-init
loop-r-init c = (omega arith, omega arith, omega arith, refl, subtract_none _ _ _)

pub loop-r-preserved : goal.loop-r-preserved
loop-r-preserved c = (simp length-set (omega arith), omega arith, omega arith, c.loop-r.invariant.3, subtract_next _ _ _ _ _ _ (omega arith) (omega arith) c.loop-r.invariant.1 c.loop-r.invariant.3 c.loop-r.invariant.4)

pub returns : goal.returns
returns c =
    let p : c.loop-r.r ≡ c.args.n = omega arith in
    rw (← p) c.loop-r.invariant.4
