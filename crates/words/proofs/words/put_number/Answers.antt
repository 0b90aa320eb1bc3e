-- `words::words::put_number` meets its contract. Assumes nothing.
use native.Mathlib.Omega.{arith}
use mathlib.Core.Path.{◌∙◌}
use lib.ListN.{length-set}
use Rattle.words.specs.Words.{number_word}
use Rattle.words.proofs.Laws.{byte, then}
use Rattle.words.proofs.DigitLaws.{decimal_length}
use Rattle.words.proofs.words.put_number.Goals as goal

pub put_decimal-requires : goal.put_decimal-requires
put_decimal-requires c = simp length-set (omega (arith, decimal_length c.args.n))

pub shape_of-out : goal.shape_of-out
shape_of-out c = c.put_decimal.auto.out ∙ simp length-set

pub returns-clause-put : goal.returns-clause-put
unfolding number_word
returns-clause-put c = then (byte _ _ 32) c.put_decimal.ensures

pub returns-clause-upper_bound : goal.returns-clause-upper_bound
unfolding number_word
returns-clause-upper_bound c = omega (arith, decimal_length c.args.n)
