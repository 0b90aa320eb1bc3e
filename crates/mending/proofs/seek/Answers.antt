-- `mending::seek` meets its contract. Assumes nothing.
use native.Mathlib.Omega.{arith}
use mathlib.Core.Path.{◌≡◌}
use Rattle.touching.proofs.Laws.{below_or}
use Rattle.mending.proofs.seek.Goals as goal

pub loop-p-init : goal.loop-p-init
loop-p-init c = (omega arith, (c.requires.1.0, λ t a b. absurd (omega arith)))

pub returns-then-listed-p : goal.returns-then-listed-p
returns-then-listed-p c = record { from = c.loop-p.invariant.0; to = c.loop-p.invariant.1.0; before = c.loop-p.invariant.1.1; here = λ h. c.if-listed-p.true }

pub loop-p-preserved : goal.loop-p-preserved
loop-p-preserved c = (omega (arith, c.loop-p.invariant.0), (omega (arith, c.loop-p-test.true), λ t a b. below_or t c.loop-p.p (λ h. c.loop-p.invariant.1.1 t a h) (λ h. let e : t ≡ c.loop-p.p = omega arith in rw e c.if-listed-p.false)))

pub returns : goal.returns
returns c = record { from = c.requires.1.0; to = omega arith; before = λ t a b. c.loop-p.invariant.1.1 t a (omega (arith, c.loop-p-test.false)); here = λ h. absurd (omega arith) }
