-- The lines of a text: a newline ends a line, a carriage return right before it or at the end of the text is dropped, and the last line needs no newline. Definitions only.
use Rattle.std.specs.Prelude.{ℕ, zero, suc, ◌+◌, ◌-◌, Bool, cond, ◌&&◌, List, [], ◌∷◌, map, eqb, ltb, length, get_or, take, drop, Option, Some, None}
use Rattle.lines.specs.declared.Line.{Line}

unfoldable pub is_newline : ℕ → Bool
is_newline c = eqb c 10

-- ---- the pieces of a list between the bytes that a test holds of: one more than there are such bytes

abbrev pub onto : ℕ → List (List ℕ) → List (List ℕ)
onto c [] = (c ∷ []) ∷ []
onto c (p ∷ ps) = (c ∷ p) ∷ ps

unfoldable pub pieces : (ℕ → Bool) → List ℕ → List (List ℕ)
pieces test [] = [] ∷ []
pieces test (c ∷ cs) = cond (test c) ([] ∷ pieces test cs) (onto c (pieces test cs))

-- ---- lines

unfoldable pub without_return : List ℕ → List ℕ
without_return [] = []
without_return (c ∷ []) = cond (eqb c 13) [] (c ∷ [])
without_return (c ∷ d ∷ ds) = c ∷ without_return (d ∷ ds)

unfoldable pub lines_of : List ℕ → List (List ℕ)
lines_of t = map without_return (pieces is_newline t)

-- ---- the same by places: a passage of a text, the bytes before the first that a test holds of, and the line that begins at a place

abbrev pub passage : ℕ → ℕ → List ℕ → List ℕ
passage from to t = take (to - from) (drop from t)

unfoldable pub stretch : (ℕ → Bool) → List ℕ → ℕ
stretch test [] = zero
stretch test (c ∷ cs) = cond {A = ℕ} (test c) zero (suc (stretch test cs))

-- the end of a line that stops at a newline or at the end of the text
unfoldable pub end_of : List ℕ → ℕ → ℕ → ℕ
end_of t at stop = cond {A = ℕ} (ltb at stop && eqb (get_or t (stop - 1) 0) 13) (stop - 1) stop

unfoldable pub line_at : List ℕ → ℕ → Line
line_at t at =
    let stop = at + stretch is_newline (drop at t) in
    record { end = end_of t at stop; next = cond (ltb stop (length t)) (Some (stop + 1)) None }

-- the lines behind one, by where the next begins
abbrev pub lines_behind : Option ℕ → List ℕ → List (List ℕ)
lines_behind None t = []
lines_behind (Some next) t = lines_of (drop next t)
