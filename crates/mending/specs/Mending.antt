-- What the steps of a mending do to the columns. Definitions only.
use Rattle.std.specs.Prelude.{ℕ, ◌+◌, ◌≤◌, ◌<◌, ◌≡◌, List, length, get_or}
use Rattle.touching.specs.Touching.{in_column, place_of, Listed}

-- of the entries from place a to place b, place r is the first whose entry is not below j, or b
pub record Sought (x : List ℕ) (a b j r : ℕ) : Type 0 where
  pub from : a ≤ r
  pub to : r ≤ b
  pub before : (t : ℕ) → a ≤ t → t < r → get_or x t 0 < j
  pub here : r < b → j ≤ get_or x r 0

-- a column whose entry p went to place q as j, and those between came one down
pub record Lowered (p q j : ℕ) (x₀ x : List ℕ) : Type 0 where
  pub long : length x ≡ length x₀
  pub between : (t : ℕ) → p ≤ t → t < q → get_or x t 0 ≡ get_or x₀ (t + 1) 0
  pub put : get_or x q 0 ≡ j
  pub below : (t : ℕ) → t < p → get_or x t 0 ≡ get_or x₀ t 0
  pub above : (t : ℕ) → q < t → get_or x t 0 ≡ get_or x₀ t 0

-- whose entry q went to place p as j, and those between went one up
pub record Raised (p q j : ℕ) (x₀ x : List ℕ) : Type 0 where
  pub long : length x ≡ length x₀
  pub between : (t : ℕ) → p ≤ t → t < q → get_or x (t + 1) 0 ≡ get_or x₀ t 0
  pub put : get_or x p 0 ≡ j
  pub below : (t : ℕ) → t < p → get_or x t 0 ≡ get_or x₀ t 0
  pub above : (t : ℕ) → q < t → get_or x t 0 ≡ get_or x₀ t 0

-- the entries behind x, up to y, one less, and one more
pub record Less (x y : ℕ) (z₀ z : List ℕ) : Type 0 where
  pub long : length z ≡ length z₀
  pub inside : (i : ℕ) → x < i → i ≤ y → get_or z₀ i 0 ≡ get_or z i 0 + 1
  pub below : (i : ℕ) → i ≤ x → get_or z i 0 ≡ get_or z₀ i 0
  pub above : (i : ℕ) → y < i → get_or z i 0 ≡ get_or z₀ i 0

pub record More (x y : ℕ) (z₀ z : List ℕ) : Type 0 where
  pub long : length z ≡ length z₀
  pub inside : (i : ℕ) → x < i → i ≤ y → get_or z i 0 ≡ get_or z₀ i 0 + 1
  pub below : (i : ℕ) → i ≤ x → get_or z i 0 ≡ get_or z₀ i 0
  pub above : (i : ℕ) → y < i → get_or z i 0 ≡ get_or z₀ i 0

-- behind n nodes' places and behind the links listed at them the columns hold what they held
pub record Kept (n end : ℕ) (places₀ listed₀ places listed : List ℕ) : Type 0 where
  pub places_past : (i : ℕ) → n < i → get_or places i 0 ≡ get_or places₀ i 0
  pub listed_past : (p : ℕ) → end ≤ p → get_or listed p 0 ≡ get_or listed₀ p 0

-- an end of link j, in column x, may be put at node y: the link's other end, in column o, is at another node before and after
pub record Goes (x o : List ℕ) (n m j y : ℕ) : Type 0 where
  pub in_links_said : j < m
  pub long : m ≤ length x
  pub was_in : in_column x j < n
  pub is_in : y < n
  pub apart : in_column o j ≡ in_column x j → ⊥
  pub free : in_column o j ≡ y → ⊥

-- the columns list the links by the new ends, as many as before, and hold behind them what they held
pub record Mended (start end start' end' : ℕ → ℕ) (n m : ℕ) (places₀ listed₀ places listed : List ℕ) : Type 0 where
  pub right : Listed start' end' n m places listed
  pub total : place_of start' end' m n ≡ place_of start end m n
  pub kept : Kept n (place_of start end m n) places₀ listed₀ places listed
