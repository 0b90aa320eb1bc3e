-- Codes past the last. Assumes nothing.
use mathlib.Core.Path.{◌≡◌, refl, sym}
use mathlib.Core.Logic.{⊎_elim}
use mathlib.Core.List.{List, [], ◌∷◌}
use Prim.Native.Nat.{ℕ, zero, suc, ◌≤◌, ◌<◌}
use native.Mathlib.Nat.{eq-or-lt_of_le, le_of_suc-le-suc, not-suc-le-zero}
use lib.ListN.{length, get_or}

-- what stands past a list's end
pub past : {A : Type 0} (l : List A) (n : ℕ) (d : A) → length l ≤ n → get_or l n d ≡ d
past [] n d h = refl
past (x ∷ l) zero d h = absurd (not-suc-le-zero h)
past (x ∷ l) (suc n) d h = past l n d (le_of_suc-le-suc h)

-- above k, where it is at least k and not k
pub not_at : {k x : ℕ} → k ≤ x → (x ≡ k → ⊥) → suc k ≤ x
not_at {k} {x} h n = ⊎_elim (λ (e : k ≡ x). absurd (n (sym e))) (λ (l : k < x). l) (eq-or-lt_of_le h)
