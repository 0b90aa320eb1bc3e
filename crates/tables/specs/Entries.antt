-- The entries of a lent table, as f64s. Definitions only.
use Rattle.std.specs.Prelude.{Bool, true, false, cond, List, [], ◌∷◌, ℕ, ◌+◌, get_or, Float}
use Rattle.std.specs.Float.{binary64}
use Rattle.std.specs.Float.Ieee.{of_bits, nan_bits}

-- A[i], the power of 1 + i / 1,024; and behind A the 128 entries of B, B[e] at the place 63 - e
abbrev pub entry_a : List ℕ → ℕ → Float
entry_a t i = of_bits binary64 (get_or t i 0)

abbrev pub entry_b : List ℕ → ℕ → Float
entry_b t j = of_bits binary64 (get_or t (1025 + j) 0)

-- no entry is the pattern of a NaN
unfoldable pub nan_free : List ℕ → Bool
nan_free [] = true
nan_free (x ∷ xs) = cond (nan_bits binary64 x) false (nan_free xs)
