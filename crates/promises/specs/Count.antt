-- How many of the first n numbers pass a test. Definitions only.
use Rattle.std.specs.Prelude.{ℕ, zero, suc, Bool, cond}

unfoldable pub count : ℕ → (ℕ → Bool) → ℕ
count zero f = 0
count (suc n) f = cond {A = ℕ} (f n) (suc (count n f)) (count n f)
