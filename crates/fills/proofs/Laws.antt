-- A column filled entry by entry: one turn of the filling, and what it holds. Assumes nothing.
use Prim.Native.Nat.{ℕ, zero, suc, ◌+◌, ◌≤◌, ◌<◌}
use mathlib.Core.Path.{◌≡◌, refl, sym, ap, ◌∙◌, subst}
use mathlib.Core.List.{List}
use mathlib.Core.Logic.{⊎_elim}
use native.Mathlib.Nat.{eq-or-lt_of_le, le_of_suc-le-suc}
use native.Mathlib.Numerals.{add-one}
use native.Mathlib.Omega.{arith}
use lib.ListN.{length, get_or, set, length-set}
use lib.Seq.{get_or-set_same, get_or-set_other}
use Rattle.fills.specs.Fills.{filled}

-- ---- one turn

module _ {A : Type 0} (f : ℕ → A) (n : ℕ) where
  -- after i entries, with the column as it is and as it was
  pub record Filled (x₀ x : List A) (i : ℕ) : Type 0 where
    pub upto : i ≤ n
    pub made : x ≡ filled f i x₀

  pub none_filled : (x : List A) → Filled x x 0
  unfolding filled
  none_filled x = record { upto = omega arith; made = refl }

  pub next_filled : (x₀ x : List A) (i : ℕ) (v : A) → Filled x₀ x i → i < n → v ≡ f i → Filled x₀ (set x i v) (i + 1)
  unfolding filled
  next_filled x₀ x i v w more e = record { upto = omega arith; made = rw (add-one i, w.made, e) }

  pub all_filled : (x₀ x : List A) (i : ℕ) → Filled x₀ x i → n ≤ i → x ≡ filled f n x₀
  all_filled x₀ x i w h =
      let e : i ≡ n = omega (arith, w.upto) in
      w.made ∙ ap (λ (k : ℕ). filled f k x₀) e

-- ---- what it holds

module _ {A : Type 0} (f : ℕ → A) where
  pub filled_long : (n : ℕ) (x : List A) → length (filled f n x) ≡ length x
  unfolding filled
  filled_long zero x = refl
  filled_long (suc n) x = length-set (filled f n x) n (f n) ∙ filled_long n x

  pub filled_at : (d : A) (n : ℕ) (x : List A) → n ≤ length x → (i : ℕ) → i < n → get_or (filled f n x) i d ≡ f i
  unfolding filled
  filled_at d zero x h i b = absurd (omega arith)
  filled_at d (suc n) x h i b =
      ⊎_elim
      (λ (e : i ≡ n). subst (λ (k : ℕ). get_or (set (filled f n x) n (f n)) k d ≡ f k) (sym e) (get_or-set_same (filled f n x) n (f n) d (omega (arith, filled_long n x))))
      (λ (g : i < n). get_or-set_other (filled f n x) n i (f n) d (λ e. omega arith) ∙ filled_at d n x (omega arith) i g)
      (eq-or-lt_of_le (le_of_suc-le-suc b))

  pub filled_past : (d : A) (n : ℕ) (x : List A) (i : ℕ) → n ≤ i → get_or (filled f n x) i d ≡ get_or x i d
  unfolding filled
  filled_past d zero x i h = refl
  filled_past d (suc n) x i h = get_or-set_other (filled f n x) n i (f n) d (λ (e : i ≡ n). omega arith) ∙ filled_past d n x i (omega arith)
