-- `option_values::count_of` meets its contract. Assumes nothing.
use mathlib.Core.Path.{sym, ◌∙◌}
use native.Mathlib.Omega.{arith}
use Rattle.decimal_words.proofs.Turns.{both_left, room_first}
use Rattle.option_values.proofs.count_of.Goals as goal

pub value_from-count-requires : goal.value_from-count-requires
value_from-count-requires c = (sym c.all_digits.ensures ∙ both_left _ _ c.if-not-few.false, room_first _ (omega arith))
