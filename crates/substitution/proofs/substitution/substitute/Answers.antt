-- `substitution::substitution::substitute` meets its contract. The invariants: k unknowns are known, and the rows after them less their terms; what is left of back substitution comes to the whole, and where nothing was found the unknowns so far are finite. Assumes nothing.
use borrow.Author.Rules.{rules}
use borrow.Author.Tests.{eqb-true}
use native.Mathlib.Omega.{arith}
use Prim.Native.Nat.{◌+◌}
use mathlib.Core.Path.{◌≡◌, refl, ◌∙◌}
use lib.ListN.{length-set}
use Rattle.zeros.proofs.Zeros.{minus_zero_most, firm_none, endless_most, finite_none}
use Rattle.substitution.proofs.SubstituteTurns.{known_none, known_next, finite_more, back_next, solved_end}
use Rattle.substitution.proofs.substitution.substitute.Goals as goal

pub loop-k-init : goal.loop-k-init
loop-k-init c = (omega arith, refl, known_none _ _ _)

pub subtract_term-requires : goal.subtract_term-requires
subtract_term-requires c = (omega arith, (omega arith, (omega arith, simp length-set (omega arith))))

pub loop-k-preserved : goal.loop-k-preserved
loop-k-preserved c = (omega arith, c.subtract_term.auto.x ∙ simp length-set c.loop-k.invariant.1, known_next _ _ _ _ c.loop-k.x _ (omega arith) (omega arith) c.loop-k.invariant.2 c.subtract_term.ensures)

pub loop-r-init : goal.loop-r-init
loop-r-init c = (refl, refl, omega arith, λ _ k u v. absurd (let z : ⊥ = omega arith in z))

pub overflow_add-kept : goal.overflow_add-kept
overflow_add-kept c = omega (arith, minus_zero_most _ _ c.minus_zero.ensures)

pub less_after-requires-clause-l_len : goal.less_after-requires-clause-l_len
less_after-requires-clause-l_len c = (omega arith, (omega arith, (omega arith, omega arith)))

pub less_after-requires-clause-firm : goal.less_after-requires-clause-firm
less_after-requires-clause-firm c = λ t.
    let e : c.loop-r.found + c.minus_zero.result ≡ 0 = eqb-true _ _ t in (
      firm_none _ _ (search rules) c.minus_zero.ensures (omega (arith, e)),
      λ k u v. c.loop-r.invariant.3 (omega (arith, e)) k (omega arith) v,
    )

pub overflow_add-found : goal.overflow_add-found
overflow_add-found c = omega (arith, endless_most _ _ c.endless-found.ensures)

pub loop-r-preserved : goal.loop-r-preserved
loop-r-preserved c = (
  simp length-set (omega arith),
  back_next _ _ _ _ _ (omega arith) c.less_after.ensures ∙ c.loop-r.invariant.1,
  omega (arith, endless_most _ _ c.endless-found.ensures),
  λ h. finite_more _ _ c.loop-r.x _ (omega arith) (λ k u v. c.loop-r.invariant.3 (omega arith) k (omega arith) v) (finite_none _ _ c.endless-found.ensures (omega arith)),
)

pub returns : goal.returns
returns c = solved_end _ _ _ _ _ c.loop-k.k c.loop-r.r (omega arith) (omega arith) c.loop-k.invariant.2 c.loop-r.invariant.1
