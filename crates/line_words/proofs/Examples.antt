-- Worked examples: the definitions compute. Assumes nothing.
use mathlib.Core.Path.{◌≡◌, refl}
use mathlib.Core.List.{[], ◌∷◌}
use Rattle.lines.specs.Lines.{pieces}
use Rattle.line_words.specs.Words.{is_blank, is_comment, before_comment, filled, words_of}

-- " a\tbc ;d" has two words, and "a;b" one; a byte above 127 and a carriage return are part of a word
examples : (words_of (32 ∷ 97 ∷ 9 ∷ 98 ∷ 99 ∷ 32 ∷ 59 ∷ 100 ∷ []) ≡ (97 ∷ []) ∷ (98 ∷ 99 ∷ []) ∷ []) × (words_of (97 ∷ 59 ∷ 98 ∷ []) ≡ (97 ∷ []) ∷ []) × (words_of (195 ∷ 169 ∷ 13 ∷ []) ≡ (195 ∷ 169 ∷ 13 ∷ []) ∷ []) × (words_of (32 ∷ []) ≡ [])
unfolding words_of before_comment pieces filled is_blank is_comment
examples = (refl, refl, refl, refl)
