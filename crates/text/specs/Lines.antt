-- The lines of the answer and of the record as ASCII bytes. Definitions only.
use Rattle.std.specs.Prelude.{ℕ, zero, suc, ◌+◌, ◌*◌, List, [], ◌∷◌, ◌++◌, get_or}
use Rattle.patterns.specs.Bytes.{little_endian}
use Rattle.words.specs.Words.{number_word, newline}

-- "A number place trials freed grounded"
unfoldable pub answer_line : ℕ → ℕ → ℕ → ℕ → ℕ → List ℕ
answer_line number place trials freed grounded =
    65 ∷ [] ++ number_word number ++ number_word place ++ number_word trials ++ number_word freed ++ number_word grounded ++ newline

-- "T GN 1": the two bytes of a mark, and a number
unfoldable pub record_line : ℕ → ℕ → ℕ → List ℕ
record_line first second n = 84 ∷ 32 ∷ first ∷ second ∷ [] ++ number_word n ++ newline

-- the first k entries of the record, each a mark and a number of two bytes
unfoldable pub record_lines : List ℕ → ℕ → List ℕ
record_lines entries zero = []
record_lines entries (suc k) =
    record_lines entries k ++ record_line (get_or entries (4 * k) 0) (get_or entries (4 * k + 1) 0) (little_endian 2 entries (4 * k + 2))
