-- `roots::square_root::nearest_root` meets its contract. The invariant is `Digits`. Assumes nothing.
use Prim.Native.Nat.{◌*◌, ◌^◌, ◌≤◌}
use mathlib.Core.Path.{refl}
use native.Mathlib.Omega.{arith}
use borrow.Author.Rules.{rules}
use Rattle.roots.proofs.Digits.{Digits, start, bound, turn, rounded_up, rounded_down}
use Rattle.roots.proofs.square_root.nearest_root.Goals as goal

pub overflow_sub-x : goal.overflow_sub-x
overflow_sub-x c = omega (arith, c.requires)

pub loop-w-init : goal.loop-w-init
loop-w-init c = start c.args.n c.requires.0 c.requires.1

pub overflow_add-last : goal.overflow_add-last
overflow_add-last c = omega (arith, bound c.loop-w.invariant)

pub overflow_add-most : goal.overflow_add-most
overflow_add-most c = omega (arith, bound c.loop-w.invariant)

pub overflow_sub-q : goal.overflow_sub-q
overflow_sub-q c = (bound c.loop-w.invariant).0

pub loop-w-smaller : goal.loop-w-smaller
loop-w-smaller c = omega (arith, c.loop-w-test.true)

pub loop-w-preserved : goal.loop-w-preserved
loop-w-preserved c = turn c.loop-w.invariant (omega (arith, c.loop-w-test.true)) _ _ _ _ _ _ refl refl c.minus-x.ensures c.minus.ensures c.chosen-v.ensures c.chosen-q.ensures

pub overflow_add-result : goal.overflow_add-result
overflow_add-result c = omega (arith, bound c.loop-w.invariant)

pub returns-then-x-lt9223372036854775808 : goal.returns-then-x-lt9223372036854775808
returns-then-x-lt9223372036854775808 c =
    let ended : c.loop-w.w ≤ 1 = omega (arith, c.requires, c.loop-w-test.false) in
    rounded_up c.loop-w.invariant ended c.if-x-lt9223372036854775808.true

pub returns-else-x-lt9223372036854775808 : goal.returns-else-x-lt9223372036854775808
returns-else-x-lt9223372036854775808 c =
    let ended : c.loop-w.w ≤ 1 = omega (arith, c.requires, c.loop-w-test.false) in
    rounded_down c.loop-w.invariant ended c.if-x-lt9223372036854775808.false
