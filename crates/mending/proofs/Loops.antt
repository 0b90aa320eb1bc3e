-- One turn of each loop of a mending. Assumes nothing.
use Prim.Native.Nat.{ℕ, ◌+◌, ◌-◌, ◌≤◌, ◌<◌}
use mathlib.Core.Path.{◌≡◌, refl, sym, ap, ◌∙◌}
use mathlib.Core.List.{List}
use native.Mathlib.Omega.{arith}
use lib.ListN.{length, get_or, set, length-set}
use lib.Seq.{get_or-set_same, get_or-set_other}
use Rattle.touching.proofs.Laws.{same_or, below_or}
use Rattle.mending.specs.Mending.{Lowered, Raised, Less, More}

-- entries a to b - 1 were copied to d and what follows it, and the others stay
abbrev pub Copied : (a b d : ℕ) (x₀ x : List ℕ) → Type 0
Copied a b d x₀ x =
    ((k e : ℕ) → d ≤ k → k < d + (b - a) → get_or x k e ≡ get_or x₀ (a + (k - d)) e) × ((k e : ℕ) → k < d → get_or x k e ≡ get_or x₀ k e) × ((k e : ℕ) → d + (b - a) ≤ k → get_or x k e ≡ get_or x₀ k e)

-- ---- the entries come one down

pub lowered : (p q j : ℕ) (x₀ x : List ℕ) → p ≤ q → q < length x₀ → length x ≡ length x₀ → Copied (p + 1) (q + 1) p x₀ x → Lowered p q j x₀ (set x q j)
lowered p q j x₀ x pq h long v =
    record {
      long = length-set x q j ∙ long;
      between = λ k a b. get_or-set_other x q k j 0 (λ z. omega arith) ∙ v.0 k 0 a (omega arith) ∙ ap (λ (i : ℕ). get_or x₀ i 0) (let e : p + 1 + (k - p) ≡ k + 1 = omega arith in e);
      put = get_or-set_same x q j 0 (omega arith);
      below = λ k a. get_or-set_other x q k j 0 (λ z. omega arith) ∙ v.1 k 0 a;
      above = λ k a. get_or-set_other x q k j 0 (λ z. omega arith) ∙ v.2 k 0 (omega arith);
    }

-- ---- the entries go one up

pub raised : (p q j : ℕ) (x₀ x : List ℕ) → p ≤ q → q < length x₀ → length x ≡ length x₀ → Copied p q (p + 1) x₀ x → Raised p q j x₀ (set x p j)
raised p q j x₀ x pq h long v =
    record {
      long = length-set x p j ∙ long;
      between = λ k a b. get_or-set_other x p (k + 1) j 0 (λ z. omega arith) ∙ v.0 (k + 1) 0 (omega arith) (omega arith) ∙ ap (λ (i : ℕ). get_or x₀ i 0) (let e : p + (k + 1 - (p + 1)) ≡ k = omega arith in e);
      put = get_or-set_same x p j 0 (omega arith);
      below = λ k a. get_or-set_other x p k j 0 (λ z. omega arith) ∙ v.1 k 0 (omega arith);
      above = λ k a. get_or-set_other x p k j 0 (λ z. omega arith) ∙ v.2 k 0 (omega arith);
    }

-- ---- the places come one down

pub record Lessening (x y : ℕ) (z₀ z : List ℕ) (i : ℕ) : Type 0 where
  pub from : x < i
  pub to : i ≤ y + 1
  pub long : length z ≡ length z₀
  pub done : (k : ℕ) → x < k → k < i → get_or z₀ k 0 ≡ get_or z k 0 + 1
  pub below : (k : ℕ) → k ≤ x → get_or z k 0 ≡ get_or z₀ k 0
  pub left : (k : ℕ) → i ≤ k → get_or z k 0 ≡ get_or z₀ k 0

pub lessening_none : (x y : ℕ) (z : List ℕ) → x < y → Lessening x y z z (x + 1)
lessening_none x y z h = record { from = omega arith; to = omega arith; long = refl; done = λ k a b. absurd (omega arith); below = λ k a. refl; left = λ k a. refl }

pub lessening_next : (x y : ℕ) (z₀ z : List ℕ) (i : ℕ) → Lessening x y z₀ z i → i ≤ y → y < length z₀ → 0 < get_or z₀ i 0 → Lessening x y z₀ (set z i (get_or z i 0 - 1)) (i + 1)
lessening_next x y z₀ z i v h b some =
    record {
      from = omega (arith, v.from);
      to = omega arith;
      long = length-set z i _ ∙ v.long;
      done = λ k a c. same_or k i
          (λ e. rw e (let g = get_or-set_same z i (get_or z i 0 - 1) 0 (omega (arith, v.long)) in omega (arith, g, v.left i (omega arith))))
          (λ d. v.done k a (below_or k i (λ q. q) (λ q. absurd (d (let e : k ≡ i = omega arith in e)))) ∙ ap (λ (q : ℕ). q + 1) (sym (get_or-set_other z i k _ 0 d)));
      below = λ k a. get_or-set_other z i k _ 0 (λ e. omega (arith, v.from)) ∙ v.below k a;
      left = λ k a. get_or-set_other z i k _ 0 (λ e. omega arith) ∙ v.left k (omega arith);
    }

pub lessened : (x y : ℕ) (z₀ z : List ℕ) (i : ℕ) → Lessening x y z₀ z i → y < i → Less x y z₀ z
lessened x y z₀ z i v h = record { long = v.long; inside = λ k a b. v.done k a (omega arith); below = v.below; above = λ k a. v.left k (omega (arith, v.to)) }

-- ---- and go one up

pub record Rising (x y : ℕ) (z₀ z : List ℕ) (i : ℕ) : Type 0 where
  pub from : x < i
  pub to : i ≤ y + 1
  pub long : length z ≡ length z₀
  pub done : (k : ℕ) → x < k → k < i → get_or z k 0 ≡ get_or z₀ k 0 + 1
  pub below : (k : ℕ) → k ≤ x → get_or z k 0 ≡ get_or z₀ k 0
  pub left : (k : ℕ) → i ≤ k → get_or z k 0 ≡ get_or z₀ k 0

pub rising_none : (x y : ℕ) (z : List ℕ) → x < y → Rising x y z z (x + 1)
rising_none x y z h = record { from = omega arith; to = omega arith; long = refl; done = λ k a b. absurd (omega arith); below = λ k a. refl; left = λ k a. refl }

pub rising_next : (x y : ℕ) (z₀ z : List ℕ) (i : ℕ) → Rising x y z₀ z i → i ≤ y → y < length z₀ → Rising x y z₀ (set z i (get_or z i 0 + 1)) (i + 1)
rising_next x y z₀ z i v h b =
    record {
      from = omega (arith, v.from);
      to = omega arith;
      long = length-set z i _ ∙ v.long;
      done = λ k a c. same_or k i
          (λ e. rw e (get_or-set_same z i _ 0 (omega (arith, v.long)) ∙ ap (λ (q : ℕ). q + 1) (v.left i (omega arith))))
          (λ d. get_or-set_other z i k _ 0 d ∙ v.done k a (below_or k i (λ q. q) (λ q. absurd (d (let e : k ≡ i = omega arith in e)))));
      below = λ k a. get_or-set_other z i k _ 0 (λ e. omega (arith, v.from)) ∙ v.below k a;
      left = λ k a. get_or-set_other z i k _ 0 (λ e. omega arith) ∙ v.left k (omega arith);
    }

pub risen : (x y : ℕ) (z₀ z : List ℕ) (i : ℕ) → Rising x y z₀ z i → y < i → More x y z₀ z
risen x y z₀ z i v h = record { long = v.long; inside = λ k a b. v.done k a (omega arith); below = v.below; above = λ k a. v.left k (omega (arith, v.to)) }
