-- The lines of OPTIONS: a key of one word or of two, then one value, and what a line is refused with. Definitions only.
use Rattle.std.specs.Prelude.{ℕ, Bool, false, not, ◌&&◌, ◌||◌, List, Float, ⊤, Result}
use Rattle.std.specs.Float.Ieee.{eq}
use Rattle.constants.specs.Constants.{half, one}
use Rattle.spelled.specs.Texts.{bytes_of}
use Rattle.line_fields.specs.declared.LineFault.{LineFault}
use Rattle.line_fields.specs.Fields.{word_in, has_word, number_at, value_at, keyword_at, fault_of}
use Rattle.first_words.specs.First.{pair_is}
use Rattle.option_values.specs.Values.{is_unit, is_count}

-- No key of one word begins a key of two, so that a line has at most one key.

-- read and passed over with whatever stands behind it
unfoldable pub passed_key : List (List ℕ) → Bool
passed_key ws =
    keyword_at ws 0 (bytes_of "UNBALANCED") || keyword_at ws 0 (bytes_of "QUALITY") || keyword_at ws 0 (bytes_of "MAP") || keyword_at ws 0 (bytes_of "HYDRAULICS")

-- three that are kept, and six that are read and passed over
unfoldable pub number_key : List (List ℕ) → Bool
number_key ws =
    (keyword_at ws 0 (bytes_of "ACCURACY") || keyword_at ws 0 (bytes_of "DAMPLIMIT") || keyword_at ws 0 (bytes_of "FLOWCHANGE"))
    || (keyword_at ws 0 (bytes_of "VISCOSITY") || keyword_at ws 0 (bytes_of "DIFFUSIVITY") || keyword_at ws 0 (bytes_of "TOLERANCE")
    || keyword_at ws 0 (bytes_of "HEADERROR") || keyword_at ws 0 (bytes_of "CHECKFREQ") || keyword_at ws 0 (bytes_of "MAXCHECK"))

-- three that are kept, and one that is read and passed over
unfoldable pub number_pair : List (List ℕ) → Bool
number_pair ws =
    pair_is ws (bytes_of "DEMAND") (bytes_of "MULTIPLIER") || pair_is ws (bytes_of "MINIMUM") (bytes_of "PRESSURE")
    || pair_is ws (bytes_of "REQUIRED") (bytes_of "PRESSURE") || pair_is ws (bytes_of "EMITTER") (bytes_of "EXPONENT")

-- a number whose f64 equals x, as IEEE 754 compares
unfoldable pub is_value : List (List ℕ) → ℕ → Float → Bool
is_value ws k x = number_at ws k && eq (value_at ws k) x

unfoldable pub one_word_good : List (List ℕ) → Bool
one_word_good ws =
    (keyword_at ws 0 (bytes_of "UNITS") && is_unit (word_in ws 1))
    || (keyword_at ws 0 (bytes_of "TRIALS") && is_count (word_in ws 1))
    || (keyword_at ws 0 (bytes_of "HEADLOSS") && keyword_at ws 1 (bytes_of "H-W"))
    || (number_key ws && number_at ws 1)
    || keyword_at ws 0 (bytes_of "PATTERN")

unfoldable pub two_words_good : List (List ℕ) → Bool
two_words_good ws =
    (number_pair ws && number_at ws 2)
    || (pair_is ws (bytes_of "DEMAND") (bytes_of "MODEL") && (keyword_at ws 2 (bytes_of "DDA") || keyword_at ws 2 (bytes_of "PDA")))
    || (pair_is ws (bytes_of "SPECIFIC") (bytes_of "GRAVITY") && is_value ws 2 one)
    || (pair_is ws (bytes_of "PRESSURE") (bytes_of "EXPONENT") && is_value ws 2 half)

unfoldable pub option_fault : List (List ℕ) → Result ⊤ LineFault
option_fault ws =
    fault_of
    (passed_key ws
    || (has_word ws 1 && not (has_word ws 2) && one_word_good ws)
    || (has_word ws 2 && not (has_word ws 3) && two_words_good ws))
    false
