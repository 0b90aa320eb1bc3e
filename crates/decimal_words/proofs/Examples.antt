-- Worked examples: the definitions compute. Assumes nothing.
use mathlib.Core.Path.{◌≡◌, refl}
use mathlib.Core.Bool.{true, false}
use mathlib.Core.List.{[], ◌∷◌}
use Rattle.std.specs.Prelude.{Some, None}
use Rattle.lines.specs.Lines.{stretch}
use Rattle.decimal_words.specs.Numbers.{is_digit, is_point, is_mark, sign_length, negated, all_digits, value_from, mantissa_of, exponent_of, exponent_in, joined_of, written_of}

-- "-12.5e3" is -125 times 10 ^ 2; ".5" is 5 / 10; "1." is 1; "1e-021" is out of range; "." and "1e" spell nothing
examples : (written_of (45 ∷ 49 ∷ 50 ∷ 46 ∷ 53 ∷ 101 ∷ 51 ∷ []) ≡ Some (record { minus = true; digits = 125; negative = false; size = 2 })) × (written_of (46 ∷ 53 ∷ []) ≡ Some (record { minus = false; digits = 5; negative = true; size = 1 })) × (written_of (49 ∷ 46 ∷ []) ≡ Some (record { minus = false; digits = 1; negative = false; size = 0 })) × (written_of (49 ∷ 101 ∷ 45 ∷ 48 ∷ 50 ∷ 49 ∷ []) ≡ None) × (written_of (46 ∷ []) ≡ None) × (written_of (49 ∷ 101 ∷ []) ≡ None)
unfolding written_of joined_of mantissa_of exponent_of exponent_in stretch is_digit is_point is_mark sign_length negated all_digits value_from
examples = (refl, refl, refl, refl, refl, refl)
