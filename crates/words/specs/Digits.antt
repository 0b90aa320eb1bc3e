-- Numbers as ASCII digits, the highest first. Definitions only.
use Rattle.std.specs.Prelude.{ℕ, zero, suc, ◌+◌, ◌*◌, ◌/◌, ◌%◌, ◌^◌, cond, List, [], ◌∷◌, ◌++◌, ltb}

-- the decimal digits of n, the last k where it has more; "0" is 48
unfoldable pub decimal_in : ℕ → ℕ → List ℕ
decimal_in zero n = []
decimal_in (suc k) n = cond (ltb n 10) ((48 + n) ∷ []) (decimal_in k (n / 10) ++ ((48 + n % 10) ∷ []))

-- a number below 2 ^ 64 has at most 20
unfoldable pub decimal_of : ℕ → List ℕ
decimal_of n = decimal_in 20 n

-- "0" to "9" are 48 to 57, "a" to "f" are 97 to 102
unfoldable pub hex_digit : ℕ → ℕ
hex_digit d = cond {A = ℕ} (ltb d 10) (48 + d) (87 + d)

-- the last k hexadecimal digits of n, one for each four bits
unfoldable pub hex_in : ℕ → ℕ → List ℕ
hex_in zero n = []
hex_in (suc k) n = hex_digit (n / 2 ^ (4 * k) % 16) ∷ hex_in k n

unfoldable pub hex_of : ℕ → List ℕ
hex_of n = hex_in 16 n
