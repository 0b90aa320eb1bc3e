-- Sums kept in a column of floats, at binary64. Definitions only.
use Rattle.std.specs.Prelude.{ℕ, zero, suc, List, ◌++◌, get_or, set, take, drop, replicate, Float}
use Rattle.std.specs.Float.{nan, binary64}
use Rattle.std.specs.Float.Ieee.{of_bits, add, sub}

-- the first i entries +0.0
unfoldable pub cleared : ℕ → List Float → List Float
cleared zero e = e
cleared (suc i) e = set (cleared i e) i (of_bits binary64 0)

-- x added to entry i, and taken from it
unfoldable pub add_to : List Float → ℕ → Float → List Float
add_to e i x = set e i (add binary64 (get_or e i nan) x)

unfoldable pub take_from : List Float → ℕ → Float → List Float
take_from e i x = set e i (sub binary64 (get_or e i nan) x)

-- a column of n entries of +0.0
unfoldable pub zeros : ℕ → List Float
zeros n = replicate n (of_bits binary64 0)

-- the first n of a column over the first n of another, whose rest stays
unfoldable pub copied : {A : Type 0} → ℕ → List A → List A → List A
copied n from to = take n from ++ drop n to
