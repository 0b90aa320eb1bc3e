-- A column filled entry by entry. Definitions only.
use Rattle.std.specs.Prelude.{ℕ, zero, suc, List, set}

-- a column whose first n entries are given by their number
unfoldable pub filled : {A : Type 0} → (ℕ → A) → ℕ → List A → List A
filled f zero x = x
filled f (suc i) x = set (filled f i x) i (f i)
