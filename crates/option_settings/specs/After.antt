-- What the options of a text come to after a line, each by what it was before. Definitions only.
use Rattle.std.specs.Prelude.{ℕ, Bool, cond, List, Float}
use Rattle.std.specs.Option.{unwrap_or}
use Rattle.spelled.specs.Texts.{bytes_of}
use Rattle.line_fields.specs.Fields.{word_in, value_at, keyword_at}
use Rattle.first_words.specs.First.{pair_is}
use Rattle.option_values.specs.Values.{unit_of, count_of}
use Rattle.text_settings.specs.declared.Settings.{Settings}

-- 11 for a word that is no unit
unfoldable pub unit_after : List (List ℕ) → ℕ → ℕ
unit_after ws before = cond {A = ℕ} (keyword_at ws 0 (bytes_of "UNITS")) (unwrap_or (unit_of (word_in ws 1)) 11) before

-- 65536 for a word that is no count
unfoldable pub trials_after : List (List ℕ) → ℕ → ℕ
trials_after ws before = cond {A = ℕ} (keyword_at ws 0 (bytes_of "TRIALS")) (unwrap_or (count_of (word_in ws 1)) 65536) before

unfoldable pub number_after : List (List ℕ) → List ℕ → Float → Float
number_after ws key before = cond (keyword_at ws 0 key) (value_at ws 1) before

unfoldable pub pair_after : List (List ℕ) → List ℕ → List ℕ → Float → Float
pair_after ws first second before = cond (pair_is ws first second) (value_at ws 2) before

unfoldable pub model_after : List (List ℕ) → Bool → Bool
model_after ws before = cond (pair_is ws (bytes_of "DEMAND") (bytes_of "MODEL")) (keyword_at ws 2 (bytes_of "PDA")) before

unfoldable pub with_option : List (List ℕ) → Settings → Settings
with_option ws o =
    record {
      unit = unit_after ws o.unit;
      trials = trials_after ws o.trials;
      accuracy = number_after ws (bytes_of "ACCURACY") o.accuracy;
      damping = number_after ws (bytes_of "DAMPLIMIT") o.damping;
      change = number_after ws (bytes_of "FLOWCHANGE") o.change;
      multiplier = pair_after ws (bytes_of "DEMAND") (bytes_of "MULTIPLIER") o.multiplier;
      bends = model_after ws o.bends;
      minimum = pair_after ws (bytes_of "MINIMUM") (bytes_of "PRESSURE") o.minimum;
      required = pair_after ws (bytes_of "REQUIRED") (bytes_of "PRESSURE") o.required;
    }
