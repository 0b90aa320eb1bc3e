-- `float::halving::whole_power` meets its contract. Assumes nothing.
use Prim.Native.Nat.{ℕ, zero, suc, ◌/◌, ◌%◌, ◌≤◌, ◌<◌}
use mathlib.Core.Path.{◌≡◌, refl, sym, ap, ◌∙◌}
use native.Mathlib.Omega.{arith}
use lib.Count.{count_trailing_zeros}
use lib.Ieee.{Float, of_bits, of_fields, odd}
use borrow.Author.Tests.{eq-eqb, ne_eqb}
use Rattle.float.specs.WholePower.{least, squared, whole_power}
use Rattle.float.proofs.PowerLaws.{at_most_one, halved}
use Rattle.float.proofs.halving.+whole_power.Goals as goal

-- neither 0 nor 1
from-two : (n : ℕ) → (n ≡ 0 → ⊥) → (n ≡ 1 → ⊥) → 2 ≤ n
from-two zero h k = absurd (h refl)
from-two (suc zero) h k = absurd (k refl)
from-two (suc (suc n)) h k = omega arith

-- from the power at n / 2
from-half : (x : Float) (n : ℕ) (h y : Float) → (n ≡ 0 → ⊥) → (n ≡ 1 → ⊥) → h ≡ whole_power x (n / 2) → y ≡ squared x n h → y ≡ whole_power x n
from-half x n h y p q e r = r ∙ ap (squared x n) e ∙ sym (halved x n (from-two n p q))

pub returns-then-n-eq0 : goal.returns-then-n-eq0
unfolding least of_bits of_fields odd count_trailing_zeros
returns-then-n-eq0 t c = sym (at_most_one _ c.args.n (omega arith) ∙ simp (eq-eqb c.args.n 0 c.if-n-eq0.true))

pub returns-then-n-eq1 : goal.returns-then-n-eq1
unfolding least
returns-then-n-eq1 t c = sym (at_most_one _ c.args.n (omega arith) ∙ simp (ne_eqb c.args.n 0 c.if-n-eq0.false))

pub returns-then-n-eq0-2 : goal.returns-then-n-eq0-2
unfolding squared
returns-then-n-eq0-2 t c = from-half _ c.args.n _ _ c.if-n-eq0.false c.if-n-eq1.false c.whole_power-half.ensures (simp (eq-eqb (c.args.n % 2) 0 c.if-n-eq0-2.true))

pub returns-else-n-eq0-2 : goal.returns-else-n-eq0-2
unfolding squared
returns-else-n-eq0-2 t c = from-half _ c.args.n _ _ c.if-n-eq0.false c.if-n-eq1.false c.whole_power-half.ensures (simp (ne_eqb (c.args.n % 2) 0 c.if-n-eq0-2.false))
