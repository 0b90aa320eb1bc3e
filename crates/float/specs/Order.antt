-- Rust's max, min and clamp of f64, and the test of refusal 7. Definitions only.
use Rattle.std.specs.Prelude.{Bool, true, false, cond, pos, Float}
use Rattle.std.specs.Float.{nan, inf, fin}
use Rattle.std.specs.Float.Ieee.{lt, le, is_nan}

-- where one is NaN, the other. Of two that are equal, the first: they differ at most in the sign of a zero, which Rust leaves open
unfoldable pub larger_of : Float → Float → Float
larger_of a b = cond (is_nan a) b (cond (lt a b) b a)

unfoldable pub smaller_of : Float → Float → Float
smaller_of a b = cond (is_nan a) b (cond (lt b a) b a)

-- NaN stays NaN
unfoldable pub clamp_of : Float → Float → Float → Float
clamp_of x low high = cond (lt x low) low (cond (lt high x) high x)

-- NaN, infinite, or at least 2 ^ 64 in magnitude
unfoldable pub wild_of : Float → Bool
wild_of nan = true
wild_of (inf s) = true
wild_of (fin s m e) = le (fin false 1 (pos 64)) (fin false m e)
