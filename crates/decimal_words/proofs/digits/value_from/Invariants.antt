-- `decimal_words::digits::value_from` meets its contract. Assumes nothing.
use Rattle.decimal_words.proofs.Turns.{Counted}
use Rattle.decimal_words.proofs.digits.value_from.Given as goal

abbrev pub invariant-loop-c : goal.invariant-loop-c
invariant-loop-c l = Counted l.s l.before l.c-index l.v
