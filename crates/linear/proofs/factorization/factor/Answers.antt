-- `linear::factorization::factor` meets its contract. The invariants: what is left to do from column c on comes to the whole; the first k columns are subtracted;
-- below the pivot, which passed, the rows down to c + i are divided by its root. Where nothing was found, the columns before are finite, and no row of the next is -0.0.
-- Assumes nothing.
use borrow.Author.Rules.{rules}
use borrow.Author.Tests.{eqb-true}
use native.Mathlib.Omega.{arith}
use Prim.Native.Nat.{ℕ, suc, ◌+◌, ◌*◌, ◌-◌, ◌≤◌, ◌<◌}
use mathlib.Core.Path.{◌≡◌, refl, sym, ◌∙◌}
use mathlib.Core.Bool.{true}
use mathlib.Core.List.{List}
use native.Mathlib.Nat.{sub-zero}
use lib.ListN.{length, length-set}
use lib.Ieee.{Float, binary64, div}
use Rattle.zeros.proofs.Zeros.{endless_most, finite_none, minus_zero_most, firm_none}
use Rattle.linear.specs.Matrix.{at, put}
use Rattle.linear.specs.Factorization.{above, reduced, divided, columns, factor_of}
use Rattle.linear.specs.Skipping.{FirmFrom, FiniteFrom}
use Rattle.linear.proofs.FactorTurns.{reduce_none, reduce_next, divide_first, divide_next, finish_end, columns_next, columns_stop, columns_end}
use Rattle.linear.proofs.Skips.{FiniteBefore, still, finite_next, firm_next, finite_more}
use Rattle.linear.proofs.factorization.factor.Goals as goal
use Rattle.linear.proofs.factorization.factor.Goals.{then-i-gt0, else-i-gt0+then-p, then-c-n, else-c-n+else-loop-k-test+then-loop-i-test+else-i-gt0+else-p}
use Rattle.std.specs.Prelude.{Err, Ok}

abbrev Ended : (a₀ a : List Float) (n stopped : ℕ) → Type 0
Ended a₀ a n stopped =
    (stopped < n → factor_of n a₀ ≡ record { matrix = a; answer = Err (record { 0 = stopped }) })
    × (n ≤ stopped → factor_of n a₀ ≡ record { matrix = a; answer = (Ok tt) })

pub columns-init : goal.columns-init
unfolding factor_of
columns-init c = (omega arith, omega arith, rw sub-zero, omega arith, λ _. (λ k h. absurd (let z : ⊥ = omega arith in z), λ h. absurd (let z : ⊥ = omega arith in z)))

pub loop-k-init : goal.loop-k-init
loop-k-init c = (omega arith, omega arith, reduce_none _ _ _)

pub subtract-requires-clause-firm_from : goal.subtract-requires-clause-firm_from
subtract-requires-clause-firm_from c =
    let h : c.columns.c < c.args.n = omega (arith, c.if-c-n.false) in
    λ t.
    let s = c.columns.invariant.4 (eqb-true _ _ t) in
    still _ _ _ c.columns.a c.loop-k.a (omega arith) h (omega arith) c.columns.invariant.0 c.loop-k.invariant.2 (s.1 (omega arith)) s.0

pub loop-k-preserved : goal.loop-k-preserved
loop-k-preserved c = (
  c.subtract.auto.a ∙ c.loop-k.invariant.0,
  omega arith,
  reduce_next _ _ _ _ _ _ (omega arith) (omega (arith, c.if-c-n.false)) (omega arith) c.columns.invariant.0 c.loop-k.invariant.2 c.subtract.ensures,
)

pub loop-i-init : goal.loop-i-init
loop-i-init c = (omega arith, omega arith, omega arith, λ _. refl, λ h. absurd (let z : ⊥ = omega arith in z), λ h. (h, λ r u v. absurd (let z : ⊥ = omega arith in z), λ r u v. absurd (let z : ⊥ = omega arith in z)))

pub overflow_add-found : goal.overflow_add-found
overflow_add-found c = omega (arith, endless_most _ _ c.endless.ensures)

pub overflow_add-found-then-i-gt0 : goal.overflow_add-found-then-i-gt0
overflow_add-found-then-i-gt0 c = omega (arith, endless_most _ _ c.endless.ensures, minus_zero_most _ _ c.minus_zero.ensures)

pub loop-i-preserved : goal.loop-i-preserved
loop-i-preserved c =
    let q = div binary64 (at c.loop-i.a (c.columns.c + c.loop-i.i) c.columns.c) c.root-d.result in
    elim c.if-i-gt0.branch [
      | then-i-gt0 w ↦
          let j = c.loop-i.invariant.4 w.if-i-gt0.true in (
            rw w.a-is (simp length-set c.loop-i.invariant.0),
            omega arith,
            omega (arith, w.found-is, endless_most _ _ w.endless.ensures, minus_zero_most _ _ w.minus_zero.ensures),
            λ h. absurd (let z : ⊥ = omega arith in z),
            λ _. (j.0, rw w.a-is (divide_next _ _ c.root-d.result _ c.loop-i.a w.if-i-gt0.true j.1)),
            λ h.
                let k = c.loop-i.invariant.5 (omega (arith, w.found-is)) in (
                  k.0,
                  rw w.a-is (finite_next _ _ c.loop-i.a q (omega arith) k.1 (finite_none _ _ w.endless.ensures (omega (arith, w.found-is)))),
                  rw w.a-is (firm_next _ _ c.loop-i.a q (omega arith) k.2 (firm_none _ _ (search rules) w.minus_zero.ensures (omega (arith, w.found-is)))),
                ),
          )
      | else-i-gt0+then-p w ↦
          let z : c.loop-i.i ≡ 0 = omega (arith, w.if-i-gt0.false) in (
            rw w.a-is (simp length-set c.loop-i.invariant.0),
            omega arith,
            omega (arith, w.found-is),
            λ h. absurd (let z : ⊥ = omega arith in z),
            λ _. (w.if-p.true, rw w.a-is (divide_first _ _ c.root-d.result _ c.loop-i.a z (c.loop-i.invariant.3 z))),
            λ h. ((c.loop-i.invariant.5 (sym w.found-is ∙ h)).0, λ r u v. absurd (let y : ⊥ = omega arith in y), λ r u v. absurd (let y : ⊥ = omega arith in y)),
          )
    ]

pub columns-preserved : goal.columns-preserved
columns-preserved c =
    let p : c.loop-k.k ≡ c.columns.c = omega arith in
    let h : c.columns.c < c.args.n = omega (arith, c.if-c-n.false) in
    let e : c.columns.c + c.loop-i.i ≡ c.args.n = omega arith in
    let b = rw p at c.loop-k.invariant.2 in
    let j = c.loop-i.invariant.4 (omega arith) in
    let f = finish_end _ _ c.root-d.result c.loop-k.a c.loop-i.a c.root-d.ensures (rw e at j.1) in (
      c.loop-i.invariant.0,
      omega arith,
      columns_next _ _ c.columns.a c.loop-k.a c.loop-i.a h b j.0 f ∙ c.columns.invariant.2,
      omega arith,
      λ t.
          let s = c.loop-i.invariant.5 t in
          (finite_more _ _ c.columns.a c.loop-k.a c.loop-i.a (omega arith) b f (c.columns.invariant.4 s.0).0 (rw e at s.1), λ _. rw e at s.2),
    )

pub returns-then-stopped-n-clause-matrix : goal.returns-then-stopped-n-clause-matrix
returns-then-stopped-n-clause-matrix c =
    let ended : Ended c.args.a.now c.if-c-n.a c.args.n c.if-c-n.stopped = elim c.if-c-n.branch [
      | then-c-n w ↦ (
        λ h. absurd (let z : ⊥ = omega (arith, w.stopped-is) in z),
        λ h. rw w.a-is (sym c.columns.invariant.2 ∙ columns_end _ _ _ w.if-c-n.true),
      )
      | else-c-n+else-loop-k-test+then-loop-i-test+else-i-gt0+else-p w ↦
          let p : w.loop-k.k ≡ c.columns.c = omega (arith, w.loop-k-test.false, w.loop-k.invariant.1) in
          let z : w.loop-i.i ≡ 0 = omega (arith, w.if-i-gt0.false) in
          let h : c.columns.c < c.args.n = omega (arith, w.if-c-n.false) in (
            λ _. rw (w.a-is, w.stopped-is, w.loop-i.invariant.3 z) (sym c.columns.invariant.2 ∙ columns_stop _ _ c.columns.a w.loop-k.a h (rw p at w.loop-k.invariant.2) w.if-p.false),
            λ l. absurd (let z : ⊥ = omega (arith, w.stopped-is) in z),
          )
    ] in
    let e = ended.0 c.if-stopped-n.true in
    rw e

pub returns-then-stopped-n-clause-answer : goal.returns-then-stopped-n-clause-answer
returns-then-stopped-n-clause-answer c =
    let ended : Ended c.args.a.now c.if-c-n.a c.args.n c.if-c-n.stopped = elim c.if-c-n.branch [
      | then-c-n w ↦ (
        λ h. absurd (let z : ⊥ = omega (arith, w.stopped-is) in z),
        λ h. rw w.a-is (sym c.columns.invariant.2 ∙ columns_end _ _ _ w.if-c-n.true),
      )
      | else-c-n+else-loop-k-test+then-loop-i-test+else-i-gt0+else-p w ↦
          let p : w.loop-k.k ≡ c.columns.c = omega (arith, w.loop-k-test.false, w.loop-k.invariant.1) in
          let z : w.loop-i.i ≡ 0 = omega (arith, w.if-i-gt0.false) in
          let h : c.columns.c < c.args.n = omega (arith, w.if-c-n.false) in (
            λ _. rw (w.a-is, w.stopped-is, w.loop-i.invariant.3 z) (sym c.columns.invariant.2 ∙ columns_stop _ _ c.columns.a w.loop-k.a h (rw p at w.loop-k.invariant.2) w.if-p.false),
            λ l. absurd (let z : ⊥ = omega (arith, w.stopped-is) in z),
          )
    ] in
    let e = ended.0 c.if-stopped-n.true in
    rw e

pub returns-else-stopped-n-clause-matrix : goal.returns-else-stopped-n-clause-matrix
returns-else-stopped-n-clause-matrix c =
    let ended : Ended c.args.a.now c.if-c-n.a c.args.n c.if-c-n.stopped = elim c.if-c-n.branch [
      | then-c-n w ↦ (
        λ h. absurd (let z : ⊥ = omega (arith, w.stopped-is) in z),
        λ h. rw w.a-is (sym c.columns.invariant.2 ∙ columns_end _ _ _ w.if-c-n.true),
      )
      | else-c-n+else-loop-k-test+then-loop-i-test+else-i-gt0+else-p w ↦
          let p : w.loop-k.k ≡ c.columns.c = omega (arith, w.loop-k-test.false, w.loop-k.invariant.1) in
          let z : w.loop-i.i ≡ 0 = omega (arith, w.if-i-gt0.false) in
          let h : c.columns.c < c.args.n = omega (arith, w.if-c-n.false) in (
            λ _. rw (w.a-is, w.stopped-is, w.loop-i.invariant.3 z) (sym c.columns.invariant.2 ∙ columns_stop _ _ c.columns.a w.loop-k.a h (rw p at w.loop-k.invariant.2) w.if-p.false),
            λ l. absurd (let z : ⊥ = omega (arith, w.stopped-is) in z),
          )
    ] in
    let e = ended.1 c.if-stopped-n.false in
    rw e

pub returns-else-stopped-n-clause-answer : goal.returns-else-stopped-n-clause-answer
returns-else-stopped-n-clause-answer c =
    let ended : Ended c.args.a.now c.if-c-n.a c.args.n c.if-c-n.stopped = elim c.if-c-n.branch [
      | then-c-n w ↦ (
        λ h. absurd (let z : ⊥ = omega (arith, w.stopped-is) in z),
        λ h. rw w.a-is (sym c.columns.invariant.2 ∙ columns_end _ _ _ w.if-c-n.true),
      )
      | else-c-n+else-loop-k-test+then-loop-i-test+else-i-gt0+else-p w ↦
          let p : w.loop-k.k ≡ c.columns.c = omega (arith, w.loop-k-test.false, w.loop-k.invariant.1) in
          let z : w.loop-i.i ≡ 0 = omega (arith, w.if-i-gt0.false) in
          let h : c.columns.c < c.args.n = omega (arith, w.if-c-n.false) in (
            λ _. rw (w.a-is, w.stopped-is, w.loop-i.invariant.3 z) (sym c.columns.invariant.2 ∙ columns_stop _ _ c.columns.a w.loop-k.a h (rw p at w.loop-k.invariant.2) w.if-p.false),
            λ l. absurd (let z : ⊥ = omega (arith, w.stopped-is) in z),
          )
    ] in
    let e = ended.1 c.if-stopped-n.false in
    rw e
