-- `words::digits::put_decimal` ends, by its measure n. Assumes nothing.
use Rattle.words.proofs.digits.+put_decimal.Given as goal

abbrev pub decreases-put_decimal : goal.decreases-put_decimal
decreases-put_decimal l = l.n
