-- The line before a sheet that was made of a text, as ASCII bytes. Definitions only.
use Rattle.std.specs.Prelude.{ℕ, List, [], ◌∷◌, ◌++◌}
use Rattle.words.specs.Words.{number_word, newline}

-- "S nodes links bytes"
unfoldable pub sheet_line : ℕ → ℕ → ℕ → List ℕ
sheet_line nodes links bytes = 83 ∷ [] ++ number_word nodes ++ number_word links ++ number_word bytes ++ newline
