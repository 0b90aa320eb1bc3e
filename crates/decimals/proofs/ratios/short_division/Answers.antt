-- `decimals::ratios::short_division` meets its contract. Assumes nothing.
use mathlib.Core.Path.{◌≡◌, subst}
use Prim.Native.Nat.{ℕ, ◌+◌, ◌*◌, ◌/◌, ◌%◌, ◌^◌}
use native.Mathlib.Nat.{mod-lt}
use native.Mathlib.Omega.{arith}
use Rattle.decimals.specs.Parts.{Divided}
use Rattle.decimals.proofs.Quotients.{halves}
use Rattle.decimals.proofs.ratios.short_division.Goals as goal

pub overflow_mul-second : goal.overflow_mul-second
overflow_mul-second c = omega (arith, mod-lt (c.args.n * 2 ^ 26) {m = c.args.m} (omega arith))

pub overflow_mul-result : goal.overflow_mul-result
overflow_mul-result c = omega (arith, (halves c.args.n c.args.m c.requires.0).short)

pub overflow_add-result : goal.overflow_add-result
overflow_add-result c = omega (arith, (halves c.args.n c.args.m c.requires.0).short)

pub returns : goal.returns
returns c =
    let r = c.args.n * 2 ^ 26 % c.args.m * 2 ^ 27 % c.args.m in
    let d = halves c.args.n c.args.m c.requires.0 in
    let e : r ≡ 0 + r = omega arith in
    (omega (arith, d.small, c.requires.1), subst (λ (k : ℕ). Divided c.args.n c.args.m k (c.args.n * 2 ^ 26 / c.args.m * 2 ^ 27 + c.args.n * 2 ^ 26 % c.args.m * 2 ^ 27 / c.args.m)) e d)
