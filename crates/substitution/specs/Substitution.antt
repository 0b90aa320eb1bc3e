-- Document 01, item 7: forward and back substitution with a factor L, rounding by rounding. Definitions only.
use Rattle.std.specs.Prelude.{ℕ, zero, suc, ◌+◌, ◌-◌, List, get_or, set, Float}
use Rattle.std.specs.Float.{nan, binary64}
use Rattle.std.specs.Float.Ieee.{sub, mul, div}
use Rattle.linear.specs.Matrix.{at, rows}

-- the right side at row r less the terms of the first k unknowns, one by one, ascending
unfoldable pub before : List Float → List Float → ℕ → ℕ → Float
before l x r zero = get_or x r nan
before l x r (suc k) = sub binary64 (before l x r k) (mul binary64 (at l r k) (get_or x k nan))

-- L y = x for the first r unknowns, from the first on
unfoldable pub forward : List Float → ℕ → List Float → List Float
forward l zero x = x
forward l (suc r) x = let y = forward l r x in set y r (div binary64 (before l y r r) (at l r r))

-- the right side at row r less the terms of the first k unknowns after r, one by one, ascending
unfoldable pub after : List Float → List Float → ℕ → ℕ → Float
after l x r zero = get_or x r nan
after l x r (suc k) = sub binary64 (after l x r k) (mul binary64 (at l (r + suc k) r) (get_or x (r + suc k) nan))

-- Lᵀ y = x for the first r of n unknowns, from the last down
unfoldable pub back : List Float → ℕ → ℕ → List Float → List Float
back l n zero x = x
back l n (suc r) x = back l n r (set x r (div binary64 (after l x r (n - suc r)) (at l r r)))

unfoldable pub solved : List Float → ℕ → List Float → List Float
solved l n x = back l n n (forward l n x)

-- the first i rows after k, each less the term of unknown k alone: one step of `before`
unfoldable pub less_term : List Float → ℕ → ℕ → List Float → List Float
less_term l k i x = rows (suc k) (λ r. sub binary64 (get_or x r nan) (mul binary64 (at l r k) (get_or x k nan))) i x
