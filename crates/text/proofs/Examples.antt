-- Worked examples: the definitions compute. Assumes nothing.
use mathlib.Core.Path.{◌≡◌, refl}
use mathlib.Core.List.{[], ◌∷◌}
use Rattle.patterns.specs.Bytes.{little_endian}
use Rattle.words.specs.Digits.{decimal_in, decimal_of}
use Rattle.words.specs.Words.{number_word}
use Rattle.text.specs.Lines.{answer_line, record_line, record_lines}

-- "A 0 0 2 0 1\n"
answer : answer_line 0 0 2 0 1 ≡ 65 ∷ 32 ∷ 48 ∷ 32 ∷ 48 ∷ 32 ∷ 50 ∷ 32 ∷ 48 ∷ 32 ∷ 49 ∷ 10 ∷ []
unfolding answer_line number_word decimal_of decimal_in
answer = refl

-- the entry G N 1 0 gives "T GN 1\n"; the largest number gives "T GN 65535\n"
records : (record_lines (71 ∷ 78 ∷ 1 ∷ 0 ∷ []) 1 ≡ 84 ∷ 32 ∷ 71 ∷ 78 ∷ 32 ∷ 49 ∷ 10 ∷ []) × (record_line 71 78 65535 ≡ 84 ∷ 32 ∷ 71 ∷ 78 ∷ 32 ∷ 54 ∷ 53 ∷ 53 ∷ 51 ∷ 53 ∷ 10 ∷ [])
unfolding record_lines record_line number_word decimal_of decimal_in little_endian
records = (refl, refl)
