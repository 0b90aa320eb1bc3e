-- In a table with no NaN no entry is one. Assumes nothing.
use mathlib.Core.Bool.{Bool, true, false, cond, not}
use mathlib.Core.List.{List, [], ◌∷◌}
use Prim.Native.Nat.{ℕ, zero, suc}
use lib.Dec.{T}
use lib.ListN.{get_or}
use lib.Ieee.{binary64, nan_bits}
use Rattle.tables.specs.Entries.{nan_free}

first : (n rest : Bool) → T (cond n false rest) → T (not n)
first true rest t = t
first false rest t = tt

others : (n rest : Bool) → T (cond n false rest) → T rest
others true rest t = absurd t
others false rest t = t

pub nan_free_at : (xs : List ℕ) → T (nan_free xs) → (k : ℕ) → T (not (nan_bits binary64 (get_or xs k 0)))
unfolding nan_bits nan_free
nan_free_at [] t k = tt
nan_free_at (x ∷ xs) t zero = first (nan_bits binary64 x) (nan_free xs) t
nan_free_at (x ∷ xs) t (suc k) = nan_free_at xs (others (nan_bits binary64 x) (nan_free xs) t) k
