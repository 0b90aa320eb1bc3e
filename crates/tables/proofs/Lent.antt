-- An entry of the lent table is the entry of A or of B. Assumes nothing.
use mathlib.Core.Path.{◌≡◌}
use mathlib.Core.List.{List, ◌++◌}
use Prim.Native.Nat.{ℕ, ◌+◌, ◌<◌}
use lib.ListN.{length, get_or, get_or-append}
use lib.Seq.{get_or-append-add}

module _ (ta tb : List ℕ) (length_a : length ta ≡ 1025) where
  pub in_a : (i : ℕ) → i < 1025 → get_or (ta ++ tb) i 0 ≡ get_or ta i 0
  in_a i h = get_or-append ta tb 0 i (rw length_a h)

  pub in_b : (j : ℕ) → get_or (ta ++ tb) (1025 + j) 0 ≡ get_or tb j 0
  in_b j = rw length_a at (get_or-append-add ta tb j 0)
