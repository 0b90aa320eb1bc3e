-- `words::digits::put_decimal` meets its contract, by its measure n: the digits of a tenth, then the last one. Assumes nothing.
use native.Mathlib.Omega.{arith}
use Rattle.words.proofs.DigitLaws.{one_length, next_length, put_one, put_next}
use Rattle.words.proofs.digits.+put_decimal.Goals as goal

pub bounds-out-at : goal.bounds-out-at
bounds-out-at t c = omega (arith, one_length _ c.if-n-lt10.true)

pub returns-then-n-lt10 : goal.returns-then-n-lt10
returns-then-n-lt10 t c = put_one _ _ _ c.if-n-lt10.true

pub put_decimal-last-requires : goal.put_decimal-last-requires
put_decimal-last-requires t c = (omega arith, omega (arith, next_length c.args.n (omega arith) (omega arith)))

pub bounds-out-last : goal.bounds-out-last
bounds-out-last t c = omega (arith, next_length c.args.n (omega arith) (omega arith))

pub overflow_add-result-2 : goal.overflow_add-result-2
overflow_add-result-2 t c = omega (arith, next_length c.args.n (omega arith) (omega arith))

pub returns : goal.returns
returns t c = put_next _ _ _ _ c.args.n (omega arith) (omega arith) c.put_decimal-last.ensures
