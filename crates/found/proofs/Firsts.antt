-- The search for the first number that a test holds of: one turn of its loop, and what it finds. Assumes nothing.
use mathlib.Core.Path.{◌≡◌, refl, sym, ◌∙◌, subst}
use mathlib.Core.Bool.{Bool, true, false, cond}
use mathlib.Core.Logic.{⊎_elim}
use Prim.Native.Nat.{ℕ, zero, suc, ◌+◌, ◌-◌, ◌≤◌, ◌<◌}
use native.Mathlib.Nat.{eq-or-lt_of_le, le_of_suc-le-suc}
use native.Mathlib.Numerals.{add-one}
use native.Mathlib.Omega.{arith}
use Rattle.found.specs.Searches.{first_from, first_of, First}
use Rattle.std.proofs.Common.{Option, Some, None}

-- ---- the loop

none_left : (test : ℕ → Bool) (i : ℕ) → first_from test 0 i ≡ None
unfolding first_from
none_left test i = refl

one_left : (test : ℕ → Bool) (k i : ℕ) → first_from test (suc k) i ≡ cond (test i) (Some i) (first_from test k (suc i))
unfolding first_from
one_left test k i = refl

pub first_start : (test : ℕ → Bool) (n k : ℕ) → k ≡ n → first_from test k 0 ≡ first_of test n
unfolding first_of
first_start test n k e = rw e

-- what is left to search answers for the whole
module _ (test : ℕ → Bool) (n i : ℕ) (whole : Option ℕ) (left : first_from test (n - i) i ≡ whole) where
  pub first_end : n ≤ i → None ≡ whole
  first_end h = let e : n - i ≡ 0 = omega arith in sym (none_left test i) ∙ subst (λ (k : ℕ). first_from test k i ≡ whole) e left

  module _ (flag : Bool) (tested : flag ≡ test i) (more : i < n) where
    turn : cond flag (Some i) (first_from test (n - (i + 1)) (i + 1)) ≡ whole
    turn =
        let e : n - i ≡ suc (n - (i + 1)) = omega arith in
        rw (tested, add-one i) (sym (one_left test (n - suc i) i) ∙ (rw (e, add-one i) at left))

    pub first-here : flag ≡ true → Some i ≡ whole
    first-here h = rw h at turn

    pub first_on : flag ≡ false → first_from test (n - (i + 1)) (i + 1) ≡ whole
    first_on h = rw h at turn

-- ---- what it finds

-- nothing below i, where the search began there
record Found-from (test : ℕ → Bool) (k i p : ℕ) : Type 0 where
  from : i ≤ p
  below : p < i + k
  holds : test p ≡ true
  lower : (h : ℕ) → i ≤ h → h < p → test h ≡ false

other : {X : Type 0} {p : ℕ} → None ≡ Some p → X
other e = absurd (let z : ◌≡◌ {A = ℕ} 0 1 = cc in omega arith)

found_from : (test : ℕ → Bool) (k i p : ℕ) → first_from test k i ≡ Some p → Found-from test k i p
found_from test zero i p e = other (sym (none_left test i) ∙ e)
found_from test (suc k) i p e = go (test i) refl (sym (one_left test k i) ∙ e) (λ f. found_from test k (suc i) p f)
  where
    go : (b : Bool) → test i ≡ b → cond b (Some i) (first_from test k (suc i)) ≡ Some p → (first_from test k (suc i) ≡ Some p → Found-from test k (suc i) p) → Found-from test (suc k) i p
    go true t f rest =
        let g : i ≡ p = cc in
        record { from = omega arith; below = omega arith; holds = subst (λ (h : ℕ). test h ≡ true) g t; lower = λ h a b. absurd (omega arith) }
    go false t f rest =
        let w = rest f in
        record {
          from = omega (arith, w.from);
          below = omega (arith, w.below);
          holds = w.holds;
          lower = λ h a b. ⊎_elim (λ (e : i ≡ h). subst (λ (x : ℕ). test x ≡ false) e t) (λ more. w.lower h more b) (eq-or-lt_of_le a);
        }

none_from : (test : ℕ → Bool) (k i : ℕ) → first_from test k i ≡ None → (h : ℕ) → i ≤ h → h < i + k → test h ≡ false
none_from test zero i e h a b = absurd (omega arith)
none_from test (suc k) i e h a b = go (test i) refl (sym (one_left test k i) ∙ e) (λ f. none_from test k (suc i) f)
  where
    go : (c : Bool) → test i ≡ c → cond c (Some i) (first_from test k (suc i)) ≡ None → (first_from test k (suc i) ≡ None → (x : ℕ) → suc i ≤ x → x < suc i + k → test x ≡ false) → test h ≡ false
    go true t f rest = other (sym f)
    go false t f rest = ⊎_elim (λ (g : i ≡ h). subst (λ (x : ℕ). test x ≡ false) g t) (λ more. rest f h more (omega arith)) (eq-or-lt_of_le a)

-- It is such a number, and no lower one is.
pub first_is : (test : ℕ → Bool) (n i : ℕ) → first_of test n ≡ Some i → First test n i
unfolding first_of
first_is test n i e =
    let w = found_from test n 0 i e in
    record { below = omega (arith, w.below); holds = w.holds; lower = λ h b. w.lower h (omega arith) b }

-- There is no such number.
pub first_none : (test : ℕ → Bool) (n : ℕ) → first_of test n ≡ None → (h : ℕ) → h < n → test h ≡ false
unfolding first_of
first_none test n e h b = none_from test n 0 e h (omega arith) (omega arith)
