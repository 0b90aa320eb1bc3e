-- `decimal_words::digits::small_value` meets its contract. Assumes nothing.
use Rattle.decimal_words.proofs.Turns.{Limited}
use Rattle.decimal_words.proofs.digits.small_value.Given as goal

abbrev pub invariant-loop-c : goal.invariant-loop-c
invariant-loop-c l = Limited l.s l.c-index l.v
