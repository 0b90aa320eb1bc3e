-- Document 01, item 3: a whole power of an f64, by halving the exponent until it is 1. Definitions only.
use Rattle.std.specs.Prelude.{ℕ, zero, suc, ◌/◌, ◌%◌, false, cond, eqb, leb, pos, Float}
use Rattle.std.specs.Float.{fin, binary64}
use Rattle.std.specs.Float.Ieee.{mul}

-- x to the 0 or 1
unfoldable pub least : Float → ℕ → Float
least x n = cond (eqb n 0) (fin false 1 (pos 0)) x

-- x to the n, from h, which is x to the n / 2: h squared, times x where n is odd
unfoldable pub squared : Float → ℕ → Float → Float
squared x n h = cond (eqb (n % 2) 0) (mul binary64 h h) (mul binary64 (mul binary64 h h) x)

-- in at most k halvings
unfoldable pub power_in : ℕ → Float → ℕ → Float
unfolding least squared
power_in zero x n = least x n
power_in (suc k) x n = cond (leb n 1) (least x n) (squared x n (power_in k x (n / 2)))

-- n halvings are enough for any n
unfoldable pub whole_power : Float → ℕ → Float
unfolding power_in
whole_power x n = power_in n x n
