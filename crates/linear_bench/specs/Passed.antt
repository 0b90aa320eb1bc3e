-- How many of n columns a factorization passed. Definitions only.
use Rattle.std.specs.Prelude.{ℕ, Err, Ok}
use Rattle.linear.specs.Factorization.{Factored}

abbrev pub passed : ℕ → Factored → ℕ
passed n (Ok tt) = n
passed n (Err c) = c.0
