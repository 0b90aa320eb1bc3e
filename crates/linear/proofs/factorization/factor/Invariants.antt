-- `linear::factorization::factor` meets its contract. The invariants: what is left to do from column c on comes to the whole; the first k columns are subtracted;
-- below the pivot, which passed, the rows down to c + i are divided by its root. Where nothing was found, the columns before are finite, and no row of the next is -0.0.
-- Assumes nothing.
use borrow.Author.Rules.{rules}
use borrow.Author.Tests.{eqb-true}
use native.Mathlib.Omega.{arith}
use Prim.Native.Nat.{ℕ, suc, ◌+◌, ◌*◌, ◌-◌, ◌≤◌, ◌<◌}
use mathlib.Core.Path.{◌≡◌, refl, sym, ◌∙◌}
use mathlib.Core.Bool.{true}
use mathlib.Core.List.{List}
use mathlib.Core.Logic.{⊎_elim}
use native.Mathlib.Nat.{sub-zero}
use lib.ListN.{length, length-set}
use lib.Ieee.{Float, binary64, div}
use Rattle.zeros.proofs.Zeros.{endless_most, finite_none, minus_zero_most, firm_none}
use Rattle.linear.specs.Matrix.{at, put}
use Rattle.linear.specs.Factorization.{above, reduced, divided, columns, factor_of}
use Rattle.linear.specs.Skipping.{FirmFrom, FiniteFrom}
use Rattle.linear.proofs.FactorTurns.{reduce_none, reduce_next, divide_first, divide_next, finish_end, columns_next, columns_stop, columns_end}
use Rattle.linear.proofs.Skips.{FiniteBefore, still, finite_next, firm_next, finite_more}
use Rattle.linear.proofs.factorization.factor.Given as goal
use Rattle.std.specs.Prelude.{Err, Ok}

abbrev pub invariant-loop-k : goal.invariant-loop-k
invariant-loop-k l = (length l.a ≡ 4096) × (l.k ≤ l.c) × (l.a ≡ reduced l.n l.c l.k l.initial.a)

abbrev pub decreases-loop-k : goal.decreases-loop-k
decreases-loop-k l = l.c - l.k

abbrev pub invariant-loop-i : goal.invariant-loop-i
invariant-loop-i l =
    (length l.a ≡ 4096)
    × (l.i ≤ l.n - l.c)
    × (l.found ≤ l.initial.found + 2 * l.i)
    × (l.i ≡ 0 → l.a ≡ l.initial.a)
    × (0 < l.i → (above l.p ≡ true) × (l.a ≡ divided l.c l.d (l.c + l.i - suc l.c) (put l.initial.a l.c l.c l.d)))
    × (l.found ≡ 0 → (l.initial.found ≡ 0) × FiniteFrom (l.c + l.i) (suc l.c) l.c l.a × FirmFrom (l.c + l.i) (l.c + 1) (l.c + 1) l.a)

abbrev pub decreases-loop-i : goal.decreases-loop-i
decreases-loop-i l = l.n - l.c - l.i

abbrev pub invariant-columns : goal.invariant-columns
invariant-columns l =
    (length l.a ≡ 4096)
    × (l.c ≤ l.n)
    × (columns l.n (l.n - l.c) l.c l.a ≡ factor_of l.n l.initial.a)
    × (l.found ≤ 128 * l.c)
    × (l.found ≡ 0 → FiniteBefore l.n l.c l.a × (0 < l.c → FirmFrom l.n l.c l.c l.a))

abbrev pub decreases-columns : goal.decreases-columns
decreases-columns l = l.n - l.c
