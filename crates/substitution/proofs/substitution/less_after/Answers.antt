-- `substitution::substitution::less_after` meets its contract. Assumes nothing.
use native.Mathlib.Omega.{arith}
use mathlib.Core.Path.{◌≡◌}
use Rattle.substitution.proofs.SubstituteTurns.{after_none, after_next, after_skip, term_firm}
use Rattle.substitution.proofs.substitution.less_after.Goals as goal
use Rattle.substitution.proofs.substitution.less_after.Goals.{then-not-skip, else-not-skip+else-f}

pub loop-k-init : goal.loop-k-init
loop-k-init c = (omega arith, omega arith, after_none _ _ _, λ t. (c.requires.firm t).0)

pub loop-k-preserved : goal.loop-k-preserved
loop-k-preserved c =
    elim c.if-not-skip.branch [
      | then-not-skip w ↦ (omega arith, omega arith, rw w.s-is (after_next _ _ _ _ _ c.loop-k.invariant.0 c.loop-k.invariant.2), λ t. rw w.s-is (term_firm _ _ _ (c.loop-k.invariant.3 t)))
      | else-not-skip+else-f w ↦
          let firm = c.loop-k.invariant.3 w.if-not-skip.false in
          (omega arith, omega arith, rw w.s-is (after_skip _ _ _ _ _ c.loop-k.invariant.0 firm ((c.requires.firm w.if-not-skip.false).1 _ c.loop-k.invariant.0 (omega arith)) w.if-f.false c.loop-k.invariant.2), λ _. rw w.s-is firm)
    ]

pub returns : goal.returns
returns c = let h : c.loop-k.k ≡ c.args.n = omega arith in cc
