-- Worked examples: the definitions compute. Assumes nothing.
use mathlib.Core.Path.{◌≡◌, refl}
use mathlib.Core.List.{[], ◌∷◌}
use Rattle.lines.specs.Lines.{is_newline, pieces, without_return, lines_of}

-- nothing is one line with no bytes; "a\r\nb" are two lines, "a\n" too, the last of them with no bytes; in "\ra\r\r\n\r" one carriage return is dropped before the newline and one at the end
examples : (lines_of [] ≡ [] ∷ []) × (lines_of (97 ∷ 13 ∷ 10 ∷ 98 ∷ []) ≡ (97 ∷ []) ∷ (98 ∷ []) ∷ []) × (lines_of (97 ∷ 10 ∷ []) ≡ (97 ∷ []) ∷ [] ∷ []) × (lines_of (13 ∷ 97 ∷ 13 ∷ 13 ∷ 10 ∷ 13 ∷ []) ≡ (13 ∷ 97 ∷ 13 ∷ []) ∷ [] ∷ [])
unfolding lines_of pieces is_newline without_return
examples = (refl, refl, refl, refl)
