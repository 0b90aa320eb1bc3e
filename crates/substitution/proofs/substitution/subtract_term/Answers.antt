-- `substitution::substitution::subtract_term` meets its contract. The invariant: the rows down to r are less the term of unknown k. Assumes nothing.
use native.Mathlib.Omega.{arith}
use mathlib.Core.Path.{◌≡◌, refl}
use lib.ListN.{length-set}
use Rattle.substitution.proofs.SubstituteTurns.{term_none, term_next}
use Rattle.substitution.proofs.substitution.subtract_term.Goals as goal

pub loop-r-init : goal.loop-r-init
loop-r-init c = (refl, omega arith, omega arith, refl, term_none _ _ _)

pub loop-r-preserved : goal.loop-r-preserved
loop-r-preserved c = (simp length-set (omega arith), omega arith, omega arith, c.loop-r.invariant.3, term_next _ _ _ _ _ _ c.loop-r.invariant.1 c.loop-r.invariant.3 c.loop-r.invariant.4)

pub returns : goal.returns
returns c =
    let p : c.loop-r.r ≡ c.args.n = omega arith in
    rw (← p) c.loop-r.invariant.4
