-- The words of a line: what stands between spaces and tabs, up to a semicolon, which begins a comment. Definitions only.
use Rattle.std.specs.Prelude.{ℕ, zero, suc, ◌+◌, Bool, cond, not, ◌||◌, List, [], ◌∷◌, eqb, length, get_or, drop}
use Rattle.lines.specs.Lines.{pieces, stretch}
use Rattle.line_words.specs.declared.Word.{Word}

unfoldable pub is_blank : ℕ → Bool
is_blank c = eqb c 32 || eqb c 9

unfoldable pub is_comment : ℕ → Bool
is_comment c = eqb c 59

unfoldable pub before_comment : List ℕ → List ℕ
before_comment [] = []
before_comment (c ∷ cs) = cond (is_comment c) [] (c ∷ before_comment cs)

-- the pieces that have bytes
unfoldable pub filled : List (List ℕ) → List (List ℕ)
filled [] = []
filled ([] ∷ ps) = filled ps
filled ((c ∷ p) ∷ ps) = (c ∷ p) ∷ filled ps

unfoldable pub words_of : List ℕ → List (List ℕ)
words_of l = filled (pieces is_blank (before_comment l))

-- ---- the same by places

unfoldable pub not_blank : ℕ → Bool
not_blank c = not (is_blank c)

unfoldable pub ends_word : ℕ → Bool
ends_word c = is_blank c || is_comment c

-- the first word from a place on
unfoldable pub word_from : List ℕ → ℕ → Word
word_from l at =
    let start = at + stretch not_blank (drop at l) in
    cond (is_comment (get_or l start 0))
    (record { start = length l; end = length l })
    (record { start = start; end = start + stretch ends_word (drop start l) })

-- word k, from 0
unfoldable pub word_at : List ℕ → ℕ → Word
word_at l zero = word_from l 0
word_at l (suc k) = word_from l (word_at l k).end
