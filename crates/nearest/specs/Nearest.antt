-- What it is to be the f64 nearest to a root, over whole numbers. Definitions only.
use Rattle.std.specs.Prelude.{ℕ, ◌+◌, ◌-◌, ◌*◌, ◌/◌, ◌%◌, ◌^◌, ◌<◌, max, cond, eqb}

-- a pattern p of a finite f64 above zero is significand p * 2 ^ (field p - 1075)
abbrev pub field : ℕ → ℕ
field p = max (p / 2 ^ 52) 1

abbrev pub significand : ℕ → ℕ
significand p = p % 2 ^ 52 + cond {A = ℕ} (eqb (p / 2 ^ 52) 0) 0 (2 ^ 52)

-- the number of such a pattern, in units of the smallest f64 above zero, 2 ^ -1074
unfoldable pub units : ℕ → ℕ
units p = significand p * 2 ^ (field p - 1)

-- The f64 of the pattern s is the one nearest to the k-th root of num / den: that root lies between the middle of s and the pattern before it
-- and the middle of s and the pattern after it. In units a middle is half of a sum, so num / den lies between the k-th powers of sums / 2 ^ 1075.
pub record Nearest (k num den s : ℕ) : Type 0 where
  pub above : (units (s - 1) + units s) ^ k * den < num * (2 ^ 1075) ^ k
  pub below : num * (2 ^ 1075) ^ k < (units s + units (s + 1)) ^ k * den
