-- What it is for a lent table to hold the powers x ^ (p / q): each entry is the f64 nearest to its exact power. Definitions only.
use Rattle.std.specs.Prelude.{List, ℕ, ◌+◌, ◌*◌, ◌^◌, ◌<◌, get_or}
use Rattle.nearest.specs.Nearest.{Nearest}

-- entry i of A to the q-th root of ((1024 + i) / 1024) ^ p, and entry j of B, for the exponent 63 - j, to that of 2 ^ (p * 63) / 2 ^ (p * j)
pub record Powers (p q : ℕ) (t : List ℕ) : Type 0 where
  pub steps : (i : ℕ) → i < 1025 → Nearest q ((1024 + i) ^ p) (1024 ^ p) (get_or t i 0)
  pub twos : (j : ℕ) → j < 128 → Nearest q (2 ^ (p * 63)) (2 ^ (p * j)) (get_or t (1025 + j) 0)
