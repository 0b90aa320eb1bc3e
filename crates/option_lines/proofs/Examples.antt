-- Worked examples: the definitions compute. Assumes nothing.
use Prim.Native.Nat.{ℕ}
use mathlib.Core.Path.{◌≡◌, refl}
use mathlib.Core.List.{List, [], ◌∷◌}
use Rattle.std.specs.Prelude.{Ok, Err}
use Rattle.spelled.specs.Texts.{bytes_of}
use Rattle.spelled.specs.Spelled.{agree, capital_of, spelled_as}
use Rattle.decimal_words.specs.Numbers.{is_digit, all_digits, value_from}
use Rattle.line_fields.specs.declared.LineFault.TheVariants.{Unreadable}
use Rattle.line_fields.specs.Fields.{keyword_at, fault_of, first_of}
use Rattle.first_words.specs.First.{pair_is}
use Rattle.option_values.specs.Values.{flow_units, unit_of, is_unit, is_count}
use Rattle.option_lines.specs.Keys.{passed_key, number_key, number_pair, one_word_good, two_words_good, option_fault}

abbrev one : List ℕ → List ℕ → List (List ℕ)
one key value = key ∷ value ∷ []

-- `units lps` is taken; UNIT for UNITS and SI for a unit are refused
units : (option_fault (one (bytes_of "units") (bytes_of "lps")) ≡ Ok tt) × (option_fault (one (bytes_of "UNIT") (bytes_of "LPS")) ≡ Err Unreadable) × (option_fault (one (bytes_of "UNITS") (bytes_of "SI")) ≡ Err Unreadable)
unfolding option_fault passed_key one_word_good two_words_good number_key number_pair pair_is keyword_at fault_of agree capital_of spelled_as bytes_of flow_units unit_of is_unit first_of
units = (refl, refl, refl)

-- of TRIALS 40.0, +40 and 65536 are refused
trials : (option_fault (one (bytes_of "TRIALS") (bytes_of "40.0")) ≡ Err Unreadable) × (option_fault (one (bytes_of "TRIALS") (bytes_of "+40")) ≡ Err Unreadable) × (option_fault (one (bytes_of "TRIALS") (bytes_of "65536")) ≡ Err Unreadable)
unfolding option_fault passed_key one_word_good two_words_good number_key number_pair pair_is keyword_at fault_of agree capital_of spelled_as bytes_of is_digit all_digits value_from is_count
trials = (refl, refl, refl)
