-- The line of a verdict, as ASCII bytes. Definitions only.
use Rattle.std.specs.Prelude.{ℕ, List, [], ◌∷◌, ◌++◌}
use Rattle.words.specs.Words.{number_word, newline}

-- "V number place"
unfoldable pub verdict_line : ℕ → ℕ → List ℕ
verdict_line number place = 86 ∷ [] ++ number_word number ++ number_word place ++ newline
