-- Worked examples: the definitions compute. Assumes nothing.
use mathlib.Core.Path.{◌≡◌, refl}
use mathlib.Core.Bool.{true, false}
use mathlib.Core.List.{List, [], ◌∷◌}
use Rattle.spelled.specs.Texts.{bytes_of}
use Rattle.spelled.specs.Spelled.{agree, capital_of, spelled_as}
use Rattle.decimal_words.specs.Numbers.{is_digit, all_digits, value_from}
use Rattle.line_fields.specs.Fields.{keyword_at, first_of}
use Rattle.first_words.specs.First.{pair_is}
use Rattle.option_values.specs.Values.{flow_units, unit_of, is_count, count_of}
use Rattle.text_settings.specs.Settings.{default_settings}
use Rattle.option_settings.specs.After.{unit_after, trials_after, model_after, with_option}

-- `units lps` sets 5
units : (with_option (bytes_of "units" ∷ bytes_of "lps" ∷ []) default_settings).unit ≡ 5
unfolding keyword_at agree capital_of spelled_as bytes_of flow_units unit_of first_of unit_after with_option
units = refl

-- `TRIALS 40` sets 40
trials : (with_option (bytes_of "TRIALS" ∷ bytes_of "40" ∷ []) default_settings).trials ≡ 40
unfolding keyword_at agree capital_of spelled_as bytes_of is_digit all_digits value_from is_count count_of trials_after with_option
trials = refl

-- `DEMAND MODEL PDA` makes demands give way
model : ((with_option (bytes_of "DEMAND" ∷ bytes_of "MODEL" ∷ bytes_of "PDA" ∷ []) default_settings).bends ≡ true) × ((with_option (bytes_of "DEMAND" ∷ bytes_of "MODEL" ∷ bytes_of "dda" ∷ []) default_settings).bends ≡ false)
unfolding pair_is keyword_at agree capital_of spelled_as bytes_of model_after with_option
model = (refl, refl)
